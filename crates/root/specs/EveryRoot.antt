-- The square root without a method: which value of a format is the nearest to √x, for every x that the format holds. As
-- in number's `Nearest`, x is a / c, and a finite value y of the format f is ±w of f's smallest value, 2 ^ -low:
-- `HasValue y t w (2 ^ low f)`. Definitions only.
use Rattle.std.specs.Prelude.{◌≡◌, ◌⊎◌, ℕ, zero, suc, ◌+◌, ◌-◌, ◌*◌, ◌^◌, ◌<◌, Bool, true, false, cond, T, Float}
use Rattle.std.specs.Float.{nan, inf, fin, Format}
use Rattle.std.specs.Float.Ieee.{low, up, down, fits}
use Rattle.std.specs.Float.Ieee.Exact.{HasValue}
use Rattle.std.specs.Float.Ieee.Scale.{finite}

-- √(a / c) is less than half of d smallest values, or it is more. Both are doubled and squared, so that no root is
-- needed to say it.
abbrev pub UnderHalf : Format → (a c d : ℕ) → Type 0
UnderHalf f a c d = 4 * (a * 2 ^ low f * 2 ^ low f) < d * d * c

abbrev pub OverHalf : Format → (a c d : ℕ) → Type 0
OverHalf f a c d = d * d * c < 4 * (a * 2 ^ low f * 2 ^ low f)

-- v smallest values are nearer to √(a / c) than ±w of them: the two differ, and the root is on v's side of the middle
-- between them. That is half of v + w, and for -w half of v - w. (On whole numbers v - w is 0 where w is the larger.
-- The middle is below zero then, and a root above zero is on v's side.)
abbrev pub NearerToRoot : Format → (a c v : ℕ) → Bool → ℕ → Type 0
NearerToRoot f a c v false w = ((v < w) × UnderHalf f a c (v + w)) ⊎ ((w < v) × OverHalf f a c (v + w))
NearerToRoot f a c v true w = (0 < v + w) × OverHalf f a c (v - w)

-- the same of a value y, which is ±w smallest values
abbrev pub NearerThan : Format → (a c v : ℕ) → Float → Type 0
NearerThan f a c v y = (t : Bool) × (w : ℕ) × HasValue y t w (2 ^ low f) × NearerToRoot f a c v t w

-- r is finite and not below zero, and it is nearer to √(a / c) than every other finite value that the format holds.
-- There is no tie: no root lies in the middle between two values.
abbrev pub NearestToRoot : Format → (a c : ℕ) → Float → Type 0
NearestToRoot f a c r =
    (v : ℕ) × HasValue r false v (2 ^ low f)
    × ((y : Float) → T (fits f y) → T (finite y) → (y ≡ r → ⊥) → NearerThan f a c v y)

-- r is √x in the format f. NaN and what lies below zero have no root; the infinity above is its own, and so is a zero,
-- with its sign. Else x is m * 2 ^ e, and 2 ^ e is up e / down e.
abbrev pub RootOf : Format → Float → Float → Type 0
RootOf f nan r = r ≡ nan
RootOf f (inf s) r = r ≡ cond s nan (inf false)
RootOf f (fin s zero e) r = r ≡ fin s zero e
RootOf f (fin true (suc m) e) r = r ≡ nan
RootOf f (fin false (suc m) e) r = NearestToRoot f (suc m * up e) (down e) r
