-- The dot product in f32, and the filters that weigh a window by it. Definitions only.
use Rattle.std.specs.Prelude.{ℕ, List, [], ◌∷◌, length, Float}
use Rattle.std.specs.Float.{binary32}
use Rattle.std.specs.Float.Ieee.{add, mul}
use Rattle.stage.specs.Floats.{plus_zero}
use Rattle.fir.specs.Filter.{Filter}

-- acc, and then each sample times its tap, in index order, rounded after each product and sum; it ends with the shorter list
unfoldable pub dot_from : Float → List Float → List Float → Float
dot_from acc xs [] = acc
dot_from acc [] (t ∷ ts) = acc
dot_from acc (x ∷ xs) (t ∷ ts) = dot_from (add binary32 acc (mul binary32 x t)) xs ts

-- the same with the taps 1, 3, 5 and so on alone
unfoldable pub odd_from : Float → List Float → List Float → Float
odd_from acc xs [] = acc
odd_from acc xs (t ∷ []) = acc
odd_from acc [] (t ∷ t' ∷ ts) = acc
odd_from acc (x ∷ []) (t ∷ t' ∷ ts) = acc
odd_from acc (x ∷ x' ∷ xs) (t ∷ t' ∷ ts) = odd_from (add binary32 acc (mul binary32 x' t')) xs ts

-- every tap, the windows `factor` apart
abbrev pub every_tap : ℕ → List Float → Filter Float Float
every_tap factor taps = record { taps = length taps; factor = factor; weigh = λ window. dot_from plus_zero window taps }

-- the odd taps, an output for each sample
abbrev pub odd_taps : List Float → Filter Float Float
odd_taps taps = record { taps = length taps; factor = 1; weigh = λ window. odd_from plus_zero window taps }
