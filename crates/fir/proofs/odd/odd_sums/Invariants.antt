-- `fir::odd::odd_sums` meets its contract. The loop's invariant: each lane's sum so far, carried on over what is left of its window, is its output. Assumes nothing.
use mathlib.Core.Path.{◌≡◌}
use Prim.Native.Nat.{◌*◌}
use lib.ListN.{length}
use Rattle.fir.proofs.odd.Odd.{OddLanes}
use Rattle.fir.proofs.odd.odd_sums.Given as goal

abbrev pub invariant-loop-k : goal.invariant-loop-k
invariant-loop-k l = (length l.acc ≡ 32) × OddLanes l.taps l.x l.o l.acc (2 * l.k)
