-- `stage::runs::run_pairs` meets its contract: its loop is that of a stage over its layout. Assumes nothing.
use Rattle.stage.specs.Floats.{plus_zero}
use Rattle.stage.proofs.LoopInterleaved.{InterleavedLoop}
use Rattle.stage.proofs.runs.run_pairs.Given as goal

abbrev pub invariant-loop-k : goal.invariant-loop-k
invariant-loop-k g l = InterleavedLoop g.S.Feedback.answer (plus_zero, plus_zero) l.fn.state l.fn.«data» l.«data» l.state l.struck l.k
