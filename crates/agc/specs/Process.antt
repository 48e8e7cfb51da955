-- What a call of the gain control gives. Definitions only.
use Rattle.std.specs.Prelude.{List, Float}
use Rattle.stage.specs.Floats.{plus_zero}
use Rattle.stage.specs.Lent.{interleaved}
use Rattle.stage.specs.Stage.{Stage}
use Rattle.stage.specs.Call.{Given, call}
use Rattle.agc.specs.declared.Agc.{Agc}
use Rattle.agc.specs.declared.AgcDone.{AgcDone}
use Rattle.agc.specs.State.{setting_met, state_met}
use Rattle.agc.specs.Step.{agc_answer}

-- an answer, beside what stands in the lent slice after the call
abbrev pub given : {X : Type 0} → AgcDone → X → Given Agc X
given r left = record { refusal = r.refusal; state = r.state; struck = r.struck; left = left }

-- the gain control as a stage
abbrev pub agc_stage : Stage (Float × Float) (Float × Float) Agc
agc_stage = record { step = agc_answer; silence = (plus_zero, plus_zero); setting = setting_met; state = state_met }

abbrev pub process : Agc → List Float → Given Agc (List Float)
process = call agc_stage interleaved
