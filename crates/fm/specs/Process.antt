-- What `process_into` of the FM demodulator gives. Definitions only.
use Rattle.std.specs.Prelude.{List, length, Float}
use Rattle.stage.specs.Floats.{plus_zero}
use Rattle.stage.specs.Refusal.{NONE}
use Rattle.stage.specs.Run.{outs, end, strikes}
use Rattle.stage.specs.Stage.{Stage}
use Rattle.stage.specs.Into.{Put, call_into}
use Rattle.fm.specs.declared.FmDemodulator.{FmDemodulator}
use Rattle.fm.specs.declared.FmDone.{FmDone}
use Rattle.fm.specs.State.{setting_met, state_met}
use Rattle.fm.specs.Step.{fm_answer, from_angle}

-- an answer, beside what stands in the output slice after the call
abbrev pub put : FmDone → List Float → Put Float FmDemodulator
put r left = record { refusal = r.refusal; state = r.state; count = r.count; struck = r.struck; left = left }

-- the FM demodulator as a stage
abbrev pub fm_stage : Stage (Float × Float) Float FmDemodulator
fm_stage = record { step = fm_answer; silence = plus_zero; setting = setting_met; state = state_met }

abbrev pub process_into : FmDemodulator → List Float → List Float → Put Float FmDemodulator
process_into = call_into fm_stage

-- the run over angles that are worked out already: an output for each
abbrev pub followed : FmDemodulator → List Float → Put Float FmDemodulator
followed s angles =
    record {
      refusal = NONE;
      state = end from_angle s angles;
      count = length angles;
      struck = strikes from_angle s angles;
      left = outs from_angle plus_zero s angles;
    }
