-- What the calls of the DC remover give. Definitions only.
use Rattle.std.specs.Prelude.{List, Float}
use Rattle.stage.specs.Floats.{plus_zero}
use Rattle.stage.specs.Lent.{mono, interleaved, split}
use Rattle.stage.specs.Stage.{Stage}
use Rattle.stage.specs.Call.{Given, call}
use Rattle.stage.specs.Calls.{Taken}
use Rattle.dc_remover.specs.declared.DcRemover.{DcRemover}
use Rattle.dc_remover.specs.declared.DcRemoverDone.{DcRemoverDone}
use Rattle.dc_remover.specs.State.{setting_met, state_met}
use Rattle.dc_remover.specs.Step.{mono_answer, pair_answer}

-- an answer, beside what stands in the lent slices after the call
abbrev pub given : {X : Type 0} → DcRemoverDone → X → Given DcRemover X
given r left = record { refusal = r.refusal; state = r.state; struck = r.struck; left = left }

-- the DC remover as a stage, over samples and over pairs
abbrev pub mono_stage : Stage Float Float DcRemover
mono_stage = record { step = mono_answer; silence = plus_zero; setting = setting_met; state = state_met }

abbrev pub pair_stage : Stage (Float × Float) (Float × Float) DcRemover
pair_stage = record { step = pair_answer; silence = (plus_zero, plus_zero); setting = setting_met; state = state_met }

-- the three calls
abbrev pub process_mono : DcRemover → List Float → Given DcRemover (List Float)
process_mono = call mono_stage mono

abbrev pub process : DcRemover → List Float → Given DcRemover (List Float)
process = call pair_stage interleaved

abbrev pub process_split : DcRemover → List Float × List Float → Given DcRemover (List Float × List Float)
process_split = call pair_stage split

-- none of the three calls refuses this state with SETTING or STATE, whatever it is lent
abbrev pub TakenByAll : DcRemover → Type 0
TakenByAll s = Taken process_mono s × Taken process s × Taken process_split s
