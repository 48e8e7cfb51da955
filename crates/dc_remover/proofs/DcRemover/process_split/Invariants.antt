-- `dc_remover::DcRemover::process_split` meets its contract: its loop goes on by a block whose run is the definition's. Assumes nothing.
use Prim.Native.Nat.{◌*◌, min}
use Rattle.stage.proofs.SplitParts.{SplitParts}
use Rattle.dc_remover.specs.Process.{pair_stage}
use Rattle.dc_remover.proofs.DcRemover.process_split.Given as goal

abbrev pub invariant-loop-b : goal.invariant-loop-b
invariant-loop-b l = SplitParts pair_stage l.initial.self l.initial.i l.initial.q l.n l.i l.q l.self l.struck (min (16 * l.b) l.n)
