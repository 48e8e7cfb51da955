-- `dc_remover::DcRemover::process_mono` meets its contract: its loop goes on by a block whose run is the definition's. Assumes nothing.
use Prim.Native.Nat.{◌*◌, min}
use lib.ListN.{length}
use Rattle.stage.specs.Lent.{mono}
use Rattle.stage.proofs.InParts.{PartLoop}
use Rattle.dc_remover.specs.Process.{mono_stage}
use Rattle.dc_remover.proofs.DcRemover.process_mono.Given as goal

abbrev pub invariant-loop-b : goal.invariant-loop-b
invariant-loop-b l = PartLoop mono_stage mono l.initial.self l.initial.data l.data l.self l.struck (min (16 * l.b) (length l.initial.data))
