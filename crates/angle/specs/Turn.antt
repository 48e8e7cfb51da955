-- Reduction, sine and cosine as document 01 gives them: each operation is one rounded f64 operation. Definitions only.
use Rattle.std.specs.Prelude.{ℕ, cond, List, [], ◌∷◌, Float}
use Rattle.std.specs.Float.{binary64}
use Rattle.std.specs.Float.Ieee.{add, sub, mul, div, rem, lt, neg}
use Rattle.angle.specs.Numbers.{PI, TAU, one, whole}

-- r = x % TAU; above PI subtract TAU, below -PI add TAU
unfoldable pub pulled : Float → Float
pulled r = cond (lt PI r) (sub binary64 r TAU) (cond (lt r (neg PI)) (add binary64 r TAU) r)

unfoldable pub reduced : Float → Float
reduced x = pulled (rem binary64 x TAU)

-- one step, t = 1 - (z x t) / d, and the steps from the last divisor of a list to its first, t = 1 before them
unfoldable pub step : Float → Float → ℕ → Float
step z t d = sub binary64 one (div binary64 (mul binary64 z t) (whole d))

unfoldable pub nested : Float → List ℕ → Float
nested z [] = one
nested z (d ∷ ds) = step z (nested z ds) d

-- 2k(2k + 1) for k from 1 to 13, and (2k - 1)2k for k from 1 to 14
abbrev pub sine_divisors : List ℕ
sine_divisors = 6 ∷ 20 ∷ 42 ∷ 72 ∷ 110 ∷ 156 ∷ 210 ∷ 272 ∷ 342 ∷ 420 ∷ 506 ∷ 600 ∷ 702 ∷ []

abbrev pub cosine_divisors : List ℕ
cosine_divisors = 2 ∷ 12 ∷ 30 ∷ 56 ∷ 90 ∷ 132 ∷ 182 ∷ 240 ∷ 306 ∷ 380 ∷ 462 ∷ 552 ∷ 650 ∷ 756 ∷ []

-- of a reduced r, with z = r x r: r x t and t
unfoldable pub sine_of : Float → Float
sine_of r = mul binary64 r (nested (mul binary64 r r) sine_divisors)

unfoldable pub cosine_of : Float → Float
cosine_of r = nested (mul binary64 r r) cosine_divisors

unfoldable pub sined : Float → Float
sined x = sine_of (reduced x)

unfoldable pub cosined : Float → Float
cosined x = cosine_of (reduced x)
