-- `fir::planes::plane` meets its contract. The loop's invariant: the first k rows of plane p are copied. Assumes nothing.
use mathlib.Core.Path.{◌≡◌}
use Prim.Native.Nat.{◌+◌, ◌*◌}
use lib.ListN.{length}
use Rattle.fir.specs.Planes.{Upto}
use Rattle.fir.proofs.planes.plane.Given as goal

abbrev pub invariant-loop-k : goal.invariant-loop-k
invariant-loop-k l = (length l.z ≡ length l.initial.z) × Upto l.z l.x l.factor (l.p * 128 + l.k)
