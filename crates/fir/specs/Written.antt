-- What the functions inside the crate work out: no public contract cites it. Definitions only.
use Rattle.std.specs.Prelude.{ℕ, ◌+◌, ◌*◌, List, ◌++◌, drop, Float}
use Rattle.stage.specs.Floats.{plus_zero}
use Rattle.fir.specs.Dot.{dot_from, odd_from}
use Rattle.fir.specs.declared.work.Work.{Work}

-- the sum of the window that begins at place `at`
unfoldable pub dot_at : List Float → List Float → ℕ → Float
dot_at taps xs at = dot_from plus_zero (drop at xs) taps

-- the sums of windows `factor` apart, as values
abbrev pub dots_of : List Float → List Float → ℕ → ℕ → Float
dots_of taps xs factor l = dot_at taps xs (l * factor)

-- the outputs of a block
abbrev pub output_of : Work → ℕ → Float
output_of w j = dot_at w.taps.now (w.history.now ++ w.input.now) (w.phase + j * w.factor)

-- the same sum over the odd taps
unfoldable pub odd_at : List Float → List Float → ℕ → Float
odd_at taps xs at = odd_from plus_zero (drop at xs) taps

-- the outputs of a block over the odd taps
abbrev pub odd_of : Work → ℕ → Float
odd_of w j = odd_at w.taps.now (w.history.now ++ w.input.now) j
