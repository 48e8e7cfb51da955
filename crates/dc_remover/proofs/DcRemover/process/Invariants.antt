-- `dc_remover::DcRemover::process` meets its contract: its loop goes on by a block whose run is the definition's. Assumes nothing.
use Prim.Native.Nat.{◌*◌, min}
use lib.ListN.{length}
use Rattle.stage.specs.Lent.{interleaved}
use Rattle.stage.proofs.InParts.{PartLoop}
use Rattle.dc_remover.specs.Process.{pair_stage}
use Rattle.dc_remover.proofs.DcRemover.process.Given as goal

abbrev pub invariant-loop-b : goal.invariant-loop-b
invariant-loop-b l = PartLoop pair_stage interleaved l.initial.self l.initial.data l.data l.self l.struck (min (32 * l.b) (length l.initial.data))
