-- Worked values of the lowpass design, by computation: three taps, and who is refused at the ends of the rules. Assumes nothing.
use Rattle.std.specs.Prelude.{ℕ, ◌≡◌, refl, true, false, [], ◌∷◌, Float}
use Rattle.std.specs.Float.{nan, inf, binary32}
use Rattle.std.specs.Float.Ieee.{of_bits, add, sub, mul, div, rem, lt, le, eq, neg, of_int}
use Rattle.number.specs.Narrow.{narrowed}
use Rattle.angle.specs.Numbers as wide
use Rattle.angle.specs.Turn.{sined, cosined, sine_of, cosine_of, reduced, pulled, nested, step}
use Rattle.stage.specs.Floats.{whole}
use Rattle.lowpass.specs.Rules.{taps_allowed, cutoff_allowed}
use Rattle.lowpass.specs.Lowpass.{sinc, hamming, unscaled, divided_by, lowpass, designed}

abbrev float : ℕ → Float
float b = of_bits binary32 b

-- three taps at a quarter of the rate: 0.046.., 0.907.., 0.046..
pub three_taps : lowpass 3 (float 0x3e80_0000) ≡ float 0x3d3d_52c3 ∷ float 0x3f68_55a9 ∷ float 0x3d3d_52c3 ∷ []
unfolding whole sinc hamming unscaled divided_by sined cosined sine_of cosine_of reduced pulled nested step wide.whole narrowed of_bits add sub mul div rem lt eq neg of_int
three_taps = refl

-- the number of taps is odd, from 3 to 769
pub counts :
    (taps_allowed 1 ≡ false)
    × (taps_allowed 3 ≡ true)
    × (taps_allowed 4 ≡ false)
    × (taps_allowed 769 ≡ true)
    × (taps_allowed 771 ≡ false)
counts = (refl, refl, refl, refl, refl)

-- the cutoff is 1/1024 or above, not the float below it; below 0.5, not 0.5; not NaN
pub cutoffs :
    (cutoff_allowed (float 0x3a80_0000) ≡ true)
    × (cutoff_allowed (float 0x3a7f_ffff) ≡ false)
    × (cutoff_allowed (float 0x3eff_ffff) ≡ true)
    × (cutoff_allowed (float 0x3f00_0000) ≡ false)
    × (cutoff_allowed nan ≡ false)
    × (cutoff_allowed (inf false) ≡ false)
unfolding of_bits le lt eq
cutoffs = (refl, refl, refl, refl, refl, refl)

-- refused, the slice stays
pub refused_stays : designed (nan ∷ []) (float 0x3e80_0000) ≡ (1, nan ∷ [])
refused_stays = refl
