-- What a call of the audio gain control gives. Definitions only.
use Rattle.std.specs.Prelude.{List, Float}
use Rattle.stage.specs.Floats.{plus_zero}
use Rattle.stage.specs.Lent.{mono}
use Rattle.stage.specs.Stage.{Stage}
use Rattle.stage.specs.Call.{Given, call}
use Rattle.audio_agc.specs.declared.AudioAgc.{AudioAgc}
use Rattle.audio_agc.specs.declared.AudioAgcDone.{AudioAgcDone}
use Rattle.audio_agc.specs.State.{setting_met, state_met}
use Rattle.audio_agc.specs.Step.{audio_step}

-- an answer, beside what stands in the lent slice after the call
abbrev pub given : {X : Type 0} → AudioAgcDone → X → Given AudioAgc X
given r left = record { refusal = r.refusal; state = r.state; struck = r.struck; left = left }

-- the audio gain control as a stage
abbrev pub audio_stage : Stage Float Float AudioAgc
audio_stage = record { step = audio_step; silence = plus_zero; setting = setting_met; state = state_met }

abbrev pub process : AudioAgc → List Float → Given AudioAgc (List Float)
process = call audio_stage mono
