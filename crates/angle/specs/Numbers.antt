-- The f64 constants of the angles, by their bits, and a whole number as an f64. Definitions only.
use Rattle.std.specs.Prelude.{ℕ, pos, Float}
use Rattle.std.specs.Float.{binary64}
use Rattle.std.specs.Float.Ieee.{of_bits, of_int}

abbrev pub PI : Float
PI = of_bits binary64 0x4009_21fb_5444_2d18

abbrev pub TAU : Float
TAU = of_bits binary64 0x4019_21fb_5444_2d18

-- PI / 2 and PI / 4
abbrev pub half : Float
half = of_bits binary64 0x3ff9_21fb_5444_2d18

abbrev pub quarter : Float
quarter = of_bits binary64 0x3fe9_21fb_5444_2d18

abbrev pub one : Float
one = of_bits binary64 0x3ff0_0000_0000_0000

abbrev pub nought : Float
nought = of_bits binary64 0

-- 0.41421356237309503
abbrev pub bound : Float
bound = of_bits binary64 0x3fda_8279_99fc_ef32

unfoldable pub whole : ℕ → Float
whole n = of_int binary64 (pos n)
