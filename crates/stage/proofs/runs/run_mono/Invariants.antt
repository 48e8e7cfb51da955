-- `stage::runs::run_mono` meets its contract: its loop is that of a stage over its layout. Assumes nothing.
use Rattle.stage.specs.Floats.{plus_zero}
use Rattle.stage.proofs.LoopMono.{MonoLoop}
use Rattle.stage.proofs.runs.run_mono.Given as goal

abbrev pub invariant-loop-x : goal.invariant-loop-x
invariant-loop-x g l = MonoLoop g.S.Feedback.answer plus_zero l.fn.state l.fn.«data» l.«data» l.state l.struck l.x-index
