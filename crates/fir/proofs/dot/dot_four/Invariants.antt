-- `fir::dot::dot_four` meets its contract. The invariant: each sum so far, carried on over what is left of its window, is the whole sum. Assumes nothing.
use mathlib.Core.Path.{◌≡◌}
use lib.ListN.{length}
use Rattle.fir.proofs.lanes.Carried.{Lanes}
use Rattle.fir.proofs.dot.dot_four.Given as goal

abbrev pub invariant-loop-i : goal.invariant-loop-i
invariant-loop-i l = (length l.sums ≡ 4) × Lanes 4 l.ts l.x l.factor 0 l.sums l.i
