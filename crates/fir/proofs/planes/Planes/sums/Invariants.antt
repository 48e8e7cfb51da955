-- `fir::planes::Planes::sums` meets its contract. The loop's invariant: each lane's sum so far, carried on over what is left of its window, is its output; p and k are the plane and the row of the next sample. Assumes nothing.
use mathlib.Core.Path.{◌≡◌}
use Prim.Native.Nat.{◌+◌, ◌*◌, ◌<◌}
use lib.ListN.{length}
use Rattle.fir.proofs.lanes.Carried.{Lanes}
use Rattle.fir.proofs.planes.Planes.sums.Given as goal

abbrev pub invariant-loop-tap : goal.invariant-loop-tap
invariant-loop-tap l =
    (l.p < l.self.factor) × (l.k * l.self.factor + l.p ≡ l.q * l.self.factor + l.tap-index) × (length l.acc ≡ 32) × Lanes 32 l.taps l.self.x.now l.self.factor l.q l.acc l.tap-index
