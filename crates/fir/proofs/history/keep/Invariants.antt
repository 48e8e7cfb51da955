-- `fir::history::keep` meets its contract. The loop's invariant: the first i elements from n on have moved down, and the others stand as they did. Assumes nothing.
use mathlib.Core.Path.{◌≡◌}
use lib.ListN.{take, drop}
use Rattle.fir.proofs.history.keep.Given as goal

abbrev pub invariant-loop-i : goal.invariant-loop-i
invariant-loop-i l =
    (take l.i l.history ≡ take l.i (drop l.n l.initial.history)) × (drop l.i l.history ≡ drop l.i l.initial.history)
