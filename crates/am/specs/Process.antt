-- What `process_into` of the AM demodulator gives. Definitions only.
use Rattle.std.specs.Prelude.{List, Float}
use Rattle.stage.specs.Floats.{plus_zero}
use Rattle.stage.specs.Stage.{Stage}
use Rattle.stage.specs.Into.{Put, call_into}
use Rattle.am.specs.declared.AmDemodulator.{AmDemodulator}
use Rattle.am.specs.declared.AmDone.{AmDone}
use Rattle.am.specs.State.{setting_met, state_met}
use Rattle.am.specs.Step.{am_answer}

-- an answer, beside what stands in the output slice after the call
abbrev pub put : AmDone → List Float → Put Float AmDemodulator
put r left = record { refusal = r.refusal; state = r.state; count = r.count; struck = r.struck; left = left }

-- the AM demodulator as a stage
abbrev pub am_stage : Stage (Float × Float) Float AmDemodulator
am_stage = record { step = am_answer; silence = plus_zero; setting = setting_met; state = state_met }

abbrev pub process_into : AmDemodulator → List Float → List Float → Put Float AmDemodulator
process_into = call_into am_stage
