-- Rounding without a method: which value of a format stands for a number, as IEEE 754 has it. It is the nearest one,
-- and of two equally near the even one. A number is ±a / c: a sign (true is a minus) and two whole numbers, c above 0.
-- A finite value of the format f is ±w of f's smallest value, 2 ^ -low: `HasValue y t w (2 ^ low f)`. Definitions only.
use Rattle.std.specs.Prelude.{◌≡◌, ℕ, suc, ◌+◌, ◌-◌, ◌*◌, ◌%◌, ◌^◌, ◌<◌, ◌≤◌, Bool, cond, T, ◌⊎◌, ◌≢◌, to_bits, Float}
use Rattle.std.specs.Bool.{beq}
use Rattle.std.specs.Float.{nan, inf, fin, Format}
use Rattle.std.specs.Float.Ieee.{prec, emax, low, up, down, fits}
use Rattle.std.specs.Float.Ieee.Exact.{HasValue}
use Rattle.std.specs.Float.Ieee.Scale.{finite}

-- how far ±a and ±b are apart
abbrev pub apart : Bool → ℕ → Bool → ℕ → ℕ
apart s a t b = cond (beq s t) (a - b + (b - a)) (a + b)

-- How far ±a / c is from ±w smallest values of f. Both are whole numbers of the part 1 / (c * 2 ^ low), which is the
-- unit here.
abbrev pub distance : Format → Bool → ℕ → ℕ → Bool → ℕ → ℕ
distance f s a c t w = apart s (a * 2 ^ low f) t (w * c)

-- A value with this pattern of bits, at the distance `near`, is preferred to a value at the distance `far`: it is
-- nearer, or equally near, and its last binary digit is even.
abbrev pub Preferred : (near far bits : ℕ) → Type 0
Preferred near far bits = (near < far) ⊎ ((near ≡ far) × (bits % 2 ≡ 0))

-- r is preferred to y: r is v smallest values with the number's sign, and y is ±w of them
abbrev pub PreferredTo : Format → Bool → ℕ → ℕ → Float → ℕ → Float → Type 0
PreferredTo f s a c r v y =
    (t : Bool) × (w : ℕ) × HasValue y t w (2 ^ low f)
    × Preferred (distance f s a c s v) (distance f s a c t w) (to_bits f r)

-- r is finite and has the number's sign, and it is preferred to every other finite value that the format holds. (Where
-- r is a zero, the zero of the other sign is equally near and even too: then the sign decides.)
abbrev pub NearestTo : Format → Bool → ℕ → ℕ → Float → Type 0
NearestTo f s a c r =
    (v : ℕ) × HasValue r s v (2 ^ low f)
    × ((y : Float) → T (fits f y) → T (finite y) → (y ≢ r) → PreferredTo f s a c r v y)

-- From here on a number is too large for f: halfway between f's largest value and 2 ^ (emax + 1). For binary32 this is
-- 2 ^ 128 - 2 ^ 103.
abbrev pub too_large : Format → ℕ
too_large f = 2 ^ suc (emax f) - 2 ^ (emax f - prec f)

-- r is what ±a / c is in the format f
abbrev pub RoundsTo : Format → Bool → ℕ → ℕ → Float → Type 0
RoundsTo f s a c r = (a < too_large f * c → NearestTo f s a c r) × (too_large f * c ≤ a → r ≡ inf s)

-- r is what the float x, of any format, is in the format f. `fin s m e` is the number ±m * 2 ^ e, and 2 ^ e is
-- up e / down e.
abbrev pub Becomes : Format → Float → Float → Type 0
Becomes f nan r = r ≡ nan
Becomes f (inf s) r = r ≡ inf s
Becomes f (fin s m e) r = RoundsTo f s (m * up e) (down e) r
