-- `fir::blocks::by_32` meets its contract. The loop's invariant: the outputs of the blocks before b are written. Assumes nothing.
use mathlib.Core.Path.{◌≡◌}
use Prim.Native.Nat.{ℕ, min, ◌*◌}
use lib.ListN.{length, take}
use lib.Ieee.{Float}
use Rattle.stage.specs.Counted.{counted}
use Rattle.fir.specs.Planes.{Gives}
use Rattle.fir.proofs.blocks.by_32.Given as goal

abbrev pub invariant-loop-b : goal.invariant-loop-b
invariant-loop-b g l =
    (v : ℕ → Float) → Gives (goal.F-post g l.sums) v (length l.initial.output)
    → take (32 * l.b) l.output ≡ counted v (min (32 * l.b) (length l.initial.output))
