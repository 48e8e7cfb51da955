-- `stage::runs::run_into` meets its contract: its loop is that of a stage over its layout. Assumes nothing.
use Rattle.stage.specs.Floats.{plus_zero}
use Rattle.stage.proofs.LoopInto.{IntoLoop}
use Rattle.stage.proofs.runs.run_into.Given as goal

abbrev pub invariant-loop-k : goal.invariant-loop-k
invariant-loop-k g l = IntoLoop g.S.Feedback.answer plus_zero l.fn.state l.input l.fn.output l.output l.state l.struck l.k
