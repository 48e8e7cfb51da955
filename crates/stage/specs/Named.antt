-- A few f32 by name, by their bits, for the stages' worked values. Definitions only.
use Rattle.std.specs.Prelude.{ℕ, Float}
use Rattle.std.specs.Float.{binary32}
use Rattle.std.specs.Float.Ieee.{of_bits}

abbrev pub single : ℕ → Float
single b = of_bits binary32 b

abbrev pub minus_zero : Float
minus_zero = single 0x8000_0000

abbrev pub quarter : Float
quarter = single 0x3e80_0000

abbrev pub half : Float
half = single 0x3f00_0000

-- the float above 1.0
abbrev pub above_one : Float
above_one = single 0x3f80_0001

-- 3e38, and the largest float
abbrev pub huge : Float
huge = single 0x7f61_b1e6

abbrev pub greatest : Float
greatest = single 0x7f7f_ffff
