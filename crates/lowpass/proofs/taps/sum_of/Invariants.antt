-- `lowpass::taps::sum_of` meets its contract. The loop's invariant: the sum of the rest, from the sum so far, is the whole sum. Assumes nothing.
use mathlib.Core.Path.{◌≡◌}
use lib.ListN.{drop}
use Rattle.lowpass.specs.Lowpass.{total_from, total}
use Rattle.lowpass.proofs.taps.sum_of.Given as goal

abbrev pub invariant-loop-t : goal.invariant-loop-t
invariant-loop-t l = total_from l.sum (drop l.t-index l.taps) ≡ total l.taps
