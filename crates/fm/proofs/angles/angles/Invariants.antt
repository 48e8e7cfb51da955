-- `fm::angles::angles` meets its contract. The loop's invariant: the angles of the pairs before k are written. Assumes nothing.
use mathlib.Core.Path.{◌≡◌}
use lib.ListN.{length}
use Rattle.angle.specs.Lanes.{Holds}
use Rattle.fm.specs.Angles.{angle_at}
use Rattle.fm.proofs.angles.angles.Given as goal

abbrev pub invariant-loop-k : goal.invariant-loop-k
invariant-loop-k l = (length l.output ≡ length l.fn.output) × Holds (angle_at l.input) l.output l.k
