-- What the stages' f32 work is made of: +0.0, 1.0 and 2.0, a whole number, the tests that strike, the blend. Definitions only.
use Rattle.std.specs.Prelude.{ℕ, Bool, true, ◌&&◌, List, [], ◌∷◌, pos, Float}
use Rattle.std.specs.Float.{binary32}
use Rattle.std.specs.Float.Ieee.{of_bits, of_int, add, sub, mul}
use Rattle.std.specs.Float.Ieee.Scale.{finite}

-- +0.0, the output of a struck sample, and 1.0: by their bits in f32, and the same values in f64
abbrev pub plus_zero : Float
plus_zero = of_bits binary32 0

abbrev pub one : Float
one = of_bits binary32 0x3f80_0000

abbrev pub two : Float
two = of_bits binary32 0x4000_0000

-- a whole number in f32
unfoldable pub whole : ℕ → Float
whole n = of_int binary32 (pos n)

-- neither is NaN or an infinity
abbrev pub both_finite : Float → Float → Bool
both_finite a b = finite a && finite b

-- none of a list is
abbrev pub all_finite : List Float → Bool
all_finite [] = true
all_finite (x ∷ xs) = finite x && all_finite xs

-- (1 - a) * old + a * new in f32, each operation rounded
abbrev pub blend_of : Float → Float → Float → Float
blend_of a old new = add binary32 (mul binary32 (sub binary32 one a) old) (mul binary32 a new)
