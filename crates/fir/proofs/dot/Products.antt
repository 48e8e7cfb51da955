-- The sum of products over lists: a turn, its end, over two lists in a row, and over a window. Assumes nothing.
use mathlib.Core.Path.{◌≡◌, refl, sym}
use mathlib.Core.List.{List, [], ◌∷◌, ◌++◌}
use Prim.Native.Nat.{ℕ, ◌+◌, ◌≤◌, ◌<◌}
use native.Mathlib.Numerals.{add-one}
use lib.ListN.{length, get_or, take, drop, drop_of_length-le}
use lib.Seq.{drop-cons}
use lib.Ieee.{Float, nan, binary32, add, mul}
use Rattle.stage.specs.Floats.{plus_zero}
use Rattle.fir.specs.Filter.{output_at}
use Rattle.fir.specs.Dot.{dot_from, every_tap}
use Rattle.fir.specs.Written.{dot_at}

-- one turn of the sum
pub dot_step : (acc : Float) (xs ts : List Float) (i : ℕ) → i < length xs → i < length ts
    → dot_from acc (drop i xs) (drop i ts)
    ≡ dot_from (add binary32 acc (mul binary32 (get_or xs i nan) (get_or ts i nan))) (drop (i + 1) xs) (drop (i + 1) ts)
unfolding dot_from
dot_step acc xs ts i hx ht = rw (add-one, drop-cons xs i nan, drop-cons ts i nan)

-- past the last tap the sum is done
pub dot_done : (acc : Float) (xs ts : List Float) (i : ℕ) → length ts ≤ i → dot_from acc xs (drop i ts) ≡ acc
unfolding dot_from
dot_done acc xs ts i h = rw (drop_of_length-le ts h)

-- first the one list, with as many taps, and then the other with the rest
pub dot_append : (acc : Float) (xs ys ts : List Float)
    → dot_from acc (xs ++ ys) ts ≡ dot_from (dot_from acc xs (take (length xs) ts)) ys (drop (length xs) ts)
unfolding dot_from
dot_append acc [] ys ts = refl
dot_append acc (x ∷ xs) ys [] = refl
dot_append acc (x ∷ xs) ys (t ∷ ts) = dot_append (add binary32 acc (mul binary32 x t)) xs ys ts

-- samples behind the last tap do not count
pub dot_window : (acc : Float) (xs ts : List Float) → dot_from acc (take (length ts) xs) ts ≡ dot_from acc xs ts
unfolding dot_from
dot_window acc xs [] = refl
dot_window acc [] (t ∷ ts) = refl
dot_window acc (x ∷ xs) (t ∷ ts) = dot_window (add binary32 acc (mul binary32 x t)) xs ts

-- so that the sum from a place on is the filter's output there
pub dot_output : (f : ℕ) (ts xs : List Float) (at : ℕ) → dot_at ts xs at ≡ output_at (every_tap f ts) xs at
unfolding dot_at output_at
dot_output f ts xs at = sym (dot_window plus_zero (drop at xs) ts)
