-- The arctangent of (y, x) as document 01 gives it: each operation is one rounded f64 operation. Definitions only.
use Rattle.std.specs.Prelude.{ℕ, false, cond, ◌||◌, List, [], ◌∷◌, Float}
use Rattle.std.specs.Float.{nan, inf, binary64}
use Rattle.std.specs.Float.Ieee.{add, sub, mul, div, lt, eq, neg, is_nan}
use Rattle.number.specs.Kinds.{absolute, negative}
use Rattle.angle.specs.Numbers.{PI, half, quarter, one, nought, bound, whole}

-- t = 1/31, then t = 1/k - w x t from the last k of a list to its first
unfoldable pub part : ℕ → Float
part k = div binary64 one (whole k)

unfoldable pub odds : Float → List ℕ → Float
odds w [] = part 31
odds w (k ∷ ks) = sub binary64 (part k) (mul binary64 w (odds w ks))

abbrev pub odd_numbers : List ℕ
odd_numbers = 1 ∷ 3 ∷ 5 ∷ 7 ∷ 9 ∷ 11 ∷ 13 ∷ 15 ∷ 17 ∷ 19 ∷ 21 ∷ 23 ∷ 25 ∷ 27 ∷ 29 ∷ []

-- if q is above the bound, u = (q - 1) / (q + 1) and the base is PI / 4, else u = q and base 0
unfoldable pub base : Float → Float
base q = cond (lt bound q) quarter nought

unfoldable pub inner : Float → Float
inner q = cond (lt bound q) (div binary64 (sub binary64 q one) (add binary64 q one)) q

-- a = base + u x t, with w = u x u
unfoldable pub flat : Float → Float
flat q = add binary64 (base q) (mul binary64 (inner q) (odds (mul binary64 (inner q) (inner q)) odd_numbers))

-- q = smaller magnitude / greater; 0 if both are zero, 1 if both infinite
unfoldable pub quotient : Float → Float → Float
quotient small great = cond (eq great nought) nought (cond (eq small (inf false)) one (div binary64 small great))

unfoldable pub smaller : Float → Float → Float
smaller y x = cond (lt x y) x y

unfoldable pub greater : Float → Float → Float
greater y x = cond (lt x y) y x

-- from the two magnitudes: if |y| > |x|, a = PI / 2 - a
unfoldable pub steep : Float → Float → Float
steep y x =
    let a = flat (quotient (smaller y x) (greater y x)) in
    cond (lt x y) (sub binary64 half a) a

-- if x has its sign bit, a = PI - a; if y has its sign bit, negate
unfoldable pub mirrored : Float → Float → Float
mirrored x a = cond (negative x) (sub binary64 PI a) a

unfoldable pub turned : Float → Float → Float → Float
turned y x a = cond (negative y) (neg (mirrored x a)) (mirrored x a)

-- NaN if either is
unfoldable pub arctan : Float → Float → Float
arctan y x = cond (is_nan y || is_nan x) nan (turned y x (steep (absolute y) (absolute x)))
