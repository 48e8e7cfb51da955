-- Worked values of sine, cosine and arctangent, by computation, as bits. Assumes nothing.
use Rattle.std.specs.Prelude.{◌≡◌, refl, ℕ, true, false}
use Rattle.std.specs.Float.{nan, inf, binary32, binary64}
use Rattle.std.specs.Float.Ieee.{of_bits, to_bits, add, sub, mul, div, rem, lt, eq, neg, is_nan, of_int}
use Rattle.number.specs.Kinds.{absolute, negative}
use Rattle.number.specs.Narrow.{narrowed}
use Rattle.angle.specs.Numbers.{whole}
use Rattle.angle.specs.Turn.{pulled, reduced, step, nested, sine_of, cosine_of, sined, cosined}
use Rattle.angle.specs.Arc.{part, odds, base, inner, flat, quotient, smaller, greater, steep, mirrored, turned, arctan}

-- ---- sine and cosine
abbrev sine_bits : ℕ → ℕ
sine_bits x = to_bits binary64 (sined (of_bits binary64 x))

abbrev cosine_bits : ℕ → ℕ
cosine_bits x = to_bits binary64 (cosined (of_bits binary64 x))

-- the sine of 0 and of -0 is that zero, and of 1 the f64 nearest to it
pub sines : (sine_bits 0 ≡ 0) × (sine_bits 0x8000_0000_0000_0000 ≡ 0x8000_0000_0000_0000) × (sine_bits 0x3ff0_0000_0000_0000 ≡ 0x3fea_ed54_8f09_0cee)
unfolding sined sine_of reduced pulled nested step whole of_bits to_bits rem lt neg mul sub add div of_int
sines = (refl, refl, refl)

-- at PI itself nothing is taken off, and the f64 above PI is pulled to the other side
pub reductions : (to_bits binary64 (reduced (of_bits binary64 0x4009_21fb_5444_2d18)) ≡ 0x4009_21fb_5444_2d18) × (to_bits binary64 (reduced (of_bits binary64 0x4009_21fb_5444_2d19)) ≡ 0xc009_21fb_5444_2d17)
unfolding reduced pulled of_bits to_bits rem lt neg add sub
reductions = (refl, refl)

-- the cosine of 0 is 1; the largest f64 is reduced exactly first
pub cosines : (cosine_bits 0 ≡ 0x3ff0_0000_0000_0000) × (cosine_bits 0x7fef_ffff_ffff_ffff ≡ 0x3fea_c15e_48c1_813a)
unfolding cosined cosine_of reduced pulled nested step whole of_bits to_bits rem lt neg mul sub add div of_int
cosines = (refl, refl)

-- what is not finite has none
pub no_sines : (sined (inf true) ≡ nan) × (cosined (inf false) ≡ nan) × (sined nan ≡ nan)
unfolding sined sine_of cosined cosine_of reduced pulled nested step whole of_bits rem lt neg mul sub add div of_int
no_sines = (refl, refl, refl)

-- ---- arctangent: of (1, 0) PI / 2, of (1, 1) PI / 4, of (0, -1) PI, of (-0, -1) -PI, of (0, 0) 0, of (0, -0) PI, of two infinities PI / 4
abbrev arc_bits : ℕ → ℕ → ℕ
arc_bits y x = to_bits binary64 (arctan (of_bits binary64 y) (of_bits binary64 x))

pub arctangents : (arc_bits 0x3ff0_0000_0000_0000 0 ≡ 0x3ff9_21fb_5444_2d18) × (arc_bits 0x3ff0_0000_0000_0000 0x3ff0_0000_0000_0000 ≡ 0x3fe9_21fb_5444_2d18) × (arc_bits 0 0xbff0_0000_0000_0000 ≡ 0x4009_21fb_5444_2d18)
    × (arc_bits 0x8000_0000_0000_0000 0xbff0_0000_0000_0000 ≡ 0xc009_21fb_5444_2d18) × (arc_bits 0 0 ≡ 0) × (arc_bits 0 0x8000_0000_0000_0000 ≡ 0x4009_21fb_5444_2d18) × (arc_bits 0x7ff0_0000_0000_0000 0x7ff0_0000_0000_0000 ≡ 0x3fe9_21fb_5444_2d18)
unfolding arctan turned mirrored negative steep smaller greater quotient flat base inner odds part whole absolute of_bits to_bits add sub mul div lt eq neg is_nan of_int
arctangents = (refl, refl, refl, refl, refl, refl, refl)

-- at f32: the arctangent of (0, -1) narrows to the f32 PI
pub narrow_arctangent : to_bits binary32 (narrowed (arctan (of_bits binary32 0) (of_bits binary32 0xbf80_0000))) ≡ 0x4049_0fdb
unfolding arctan turned mirrored negative steep smaller greater quotient flat base inner odds part whole absolute narrowed of_bits to_bits add sub mul div lt eq neg is_nan of_int
narrow_arctangent = refl
