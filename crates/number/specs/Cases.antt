-- Worked values of the definitions, by computation: magnitude, sign, whole part, and narrowing at PI, the zeros, ties, the overflow and the smallest values. Assumes nothing.
use Rattle.std.specs.Prelude.{◌≡◌, ◌-◌, ◌^◌, true, false, refl}
use Rattle.std.specs.Float.{nan, inf, binary32, binary64}
use Rattle.std.specs.Float.Ieee.{of_bits, to_unsigned}
use Rattle.std.specs.Float.Ieee.Scale.{finite}
use Rattle.number.specs.Kinds.{absolute, negative}
use Rattle.number.specs.Narrow.{narrowed}
use Rattle.number.specs.Nearest.{too_large}

-- PI in f64 to PI in f32
pub narrow_pi : narrowed (of_bits binary64 0x4009_21fb_5444_2d18) ≡ of_bits binary32 0x4049_0fdb
unfolding narrowed of_bits
narrow_pi = refl

-- -0 stays -0
pub narrow_minus_zero : narrowed (of_bits binary64 0x8000_0000_0000_0000) ≡ of_bits binary32 0x8000_0000
unfolding narrowed of_bits
narrow_minus_zero = refl

-- halfway between 1 and the next f32: to 1, whose last digit is even
pub tie_down : narrowed (of_bits binary64 0x3ff0_0000_1000_0000) ≡ of_bits binary32 0x3f80_0000
unfolding narrowed of_bits
tie_down = refl

-- halfway between that f32 and the one after: up, to the even one
pub tie_up : narrowed (of_bits binary64 0x3ff0_0000_3000_0000) ≡ of_bits binary32 0x3f80_0002
unfolding narrowed of_bits
tie_up = refl

-- halfway between the largest f32 and 2 ^ 128 a number is too large: it overflows, and the f64 below it does not
pub too_large_case : too_large binary32 ≡ 2 ^ 128 - 2 ^ 103
too_large_case = refl

pub overflow : narrowed (of_bits binary64 0x47ef_ffff_f000_0000) ≡ inf false
unfolding narrowed of_bits
overflow = refl

pub no_overflow : narrowed (of_bits binary64 0x47ef_ffff_efff_ffff) ≡ of_bits binary32 0x7f7f_ffff
unfolding narrowed of_bits
no_overflow = refl

-- half of the smallest f32 goes to 0, the even one; the f64 above that half goes to the smallest f32
pub least_tie : narrowed (of_bits binary64 0xb690_0000_0000_0000) ≡ of_bits binary32 0x8000_0000
unfolding narrowed of_bits
least_tie = refl

pub above_least_tie : narrowed (of_bits binary64 0x3690_0000_0000_0001) ≡ of_bits binary32 1
unfolding narrowed of_bits
above_least_tie = refl

-- 1.5 * 2 ^ -127 has a subnormal f32
pub subnormal : narrowed (of_bits binary64 0x3808_0000_0000_0000) ≡ of_bits binary32 0x0060_0000
unfolding narrowed of_bits
subnormal = refl

pub nan_to_nan : narrowed nan ≡ nan
unfolding narrowed
nan_to_nan = refl

-- of -0: magnitude +0, and the sign bit is set
pub minus_zero_case : (absolute (of_bits binary32 0x8000_0000) ≡ of_bits binary32 0) × (negative (of_bits binary64 0x8000_0000_0000_0000) ≡ true)
unfolding absolute negative of_bits
minus_zero_case = (refl, refl)

pub none_finite : (finite nan ≡ false) × (finite (inf true) ≡ false) × (finite (of_bits binary32 0x7f7f_ffff) ≡ true)
unfolding of_bits
none_finite = (refl, refl, refl)

-- 2.75 is cut to 2, -0.5 to 0, NaN is 0, and an infinity the largest u64
pub whole_parts : (to_unsigned 64 (of_bits binary32 0x4030_0000) ≡ 2) × (to_unsigned 64 (of_bits binary32 0xbf00_0000) ≡ 0) × (to_unsigned 64 nan ≡ 0) × (to_unsigned 64 (inf false) ≡ 0xffff_ffff_ffff_ffff)
unfolding to_unsigned of_bits
whole_parts = (refl, refl, refl, refl)
