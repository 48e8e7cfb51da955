-- Worked values of the square root, by computation: marked cases 3 and 4, the ends of the range, subnormals, and what has no root. Assumes nothing.
use Rattle.std.specs.Prelude.{◌≡◌, refl, true, false}
use Rattle.std.specs.Float.{nan, inf, binary32, binary64}
use Rattle.std.specs.Float.Ieee.{of_bits}
use Rattle.root.specs.Root.{rooted}

-- marked case 3: the root of 25 is 5
pub root_of_25 : rooted binary32 (of_bits binary32 0x41c8_0000) ≡ of_bits binary32 0x40a0_0000
unfolding rooted of_bits
root_of_25 = refl

-- marked case 4: the root of 2 has the bits 3FB504F3
pub root_of_2 : rooted binary32 (of_bits binary32 0x4000_0000) ≡ of_bits binary32 0x3fb5_04f3
unfolding rooted of_bits
root_of_2 = refl

-- the smallest value's root, about 2 ^ -74.5; the largest subnormal's; the largest value's
pub root_of_least : rooted binary32 (of_bits binary32 1) ≡ of_bits binary32 0x1a35_04f3
unfolding rooted of_bits
root_of_least = refl

pub root_of_last_subnormal : rooted binary32 (of_bits binary32 0x007f_ffff) ≡ of_bits binary32 0x1fff_ffff
unfolding rooted of_bits
root_of_last_subnormal = refl

pub root_of_greatest : rooted binary32 (of_bits binary32 0x7f7f_ffff) ≡ of_bits binary32 0x5f7f_ffff
unfolding rooted of_bits
root_of_greatest = refl

-- the root of 3 lies above the middle of its neighbours, and is rounded up
pub root_of_3 : rooted binary32 (of_bits binary32 0x4040_0000) ≡ of_bits binary32 0x3fdd_b3d7
unfolding rooted of_bits
root_of_3 = refl

-- both zeros are their own roots; an infinity above is its own; below zero there is none, and NaN has none
pub zeros_stay : (rooted binary32 (of_bits binary32 0) ≡ of_bits binary32 0) × (rooted binary32 (of_bits binary32 0x8000_0000) ≡ of_bits binary32 0x8000_0000)
unfolding rooted of_bits
zeros_stay = (refl, refl)

pub no_roots : (rooted binary32 (of_bits binary32 0xbf80_0000) ≡ nan) × (rooted binary32 (inf true) ≡ nan) × (rooted binary32 nan ≡ nan) × (rooted binary32 (inf false) ≡ inf false)
unfolding rooted of_bits
no_roots = (refl, refl, refl, refl)

-- the definition serves f64 as well: the root of 2 there
pub root_of_2_wide : rooted binary64 (of_bits binary64 0x4000_0000_0000_0000) ≡ of_bits binary64 0x3ff6_a09e_667f_3bcd
unfolding rooted of_bits
root_of_2_wide = refl
