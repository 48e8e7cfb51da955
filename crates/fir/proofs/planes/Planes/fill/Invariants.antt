-- `fir::planes::Planes::fill` meets its contract. The loop's invariant: the planes before p hold their samples. Assumes nothing.
use mathlib.Core.Path.{◌≡◌}
use Prim.Native.Nat.{◌*◌}
use lib.ListN.{length}
use Rattle.fir.specs.Planes.{Upto}
use Rattle.fir.proofs.planes.Planes.fill.Given as goal

abbrev pub invariant-loop-p : goal.invariant-loop-p
invariant-loop-p l = (length l.z ≡ length l.initial.z) × Upto l.z l.x l.factor (l.p * 128)
