-- `fm::angles::fours` meets its contract. The loop's invariant: the angles of the pairs before 4 x g are written. Assumes nothing.
use mathlib.Core.Path.{◌≡◌}
use Prim.Native.Nat.{◌*◌}
use lib.ListN.{length}
use Rattle.angle.specs.Lanes.{Holds}
use Rattle.fm.specs.Angles.{angle_at}
use Rattle.fm.proofs.angles.fours.Given as goal

abbrev pub invariant-loop-g : goal.invariant-loop-g
invariant-loop-g l = (length l.output ≡ length l.fn.output) × Holds (angle_at l.input) l.output (4 * l.g)
