-- The taps of a lowpass filter, as document 01's bullet "Taps" has them: all f32, left to right. Definitions only.
use Rattle.std.specs.Prelude.{ℕ, ◌-◌, true, ◌&&◌, cond, List, [], ◌∷◌, map, length, Float}
use Rattle.std.specs.Float.{binary32}
use Rattle.std.specs.Float.Ieee.{of_bits, add, sub, mul, div, eq}
use Rattle.angle.specs.Single.{PI32, two_pi32, sine32, cosine32}
use Rattle.stage.specs.Refusal.{refusal_no, answered}
use Rattle.stage.specs.Floats.{plus_zero, two, whole}
use Rattle.stage.specs.Counted.{counted}
use Rattle.lowpass.specs.Rules.{taps_allowed, cutoff_allowed}

-- 0.54 and 0.46 in f32
abbrev pub high : Float
high = of_bits binary32 0x3f0a_3d71

abbrev pub swing : Float
swing = of_bits binary32 0x3eeb_851f

-- 2 x cutoff at n = 0, else sin(2 x PI x cutoff x n) / (PI x n)
unfoldable pub sinc : Float → Float → Float
sinc cutoff n = cond (eq n plus_zero) (mul binary32 two cutoff) (div binary32 (sine32 (mul binary32 (mul binary32 two_pi32 cutoff) n)) (mul binary32 PI32 n))

-- window 0.54 - 0.46 x cos(2 x PI x i / m)
unfoldable pub hamming : ℕ → ℕ → Float
hamming m i = sub binary32 high (mul binary32 swing (cosine32 (div binary32 (mul binary32 two_pi32 (whole i)) (whole m))))

-- m = taps - 1, n = i - m/2; their product at place i
unfoldable pub unscaled : ℕ → Float → ℕ → Float
unscaled m cutoff i = mul binary32 (sinc cutoff (sub binary32 (whole i) (div binary32 (whole m) two))) (hamming m i)

abbrev pub shapes : ℕ → Float → List Float
shapes taps cutoff = counted (unscaled (taps - 1) cutoff) taps

-- the sum taken in order
abbrev pub total_from : Float → List Float → Float
total_from sum [] = sum
total_from sum (t ∷ ts) = total_from (add binary32 sum t) ts

abbrev pub total : List Float → Float
total ts = total_from plus_zero ts

-- each product divided by the sum: the whole list of taps
unfoldable pub divided_by : Float → Float → Float
divided_by sum t = div binary32 t sum

abbrev pub lowpass : ℕ → Float → List Float
lowpass taps cutoff = map (divided_by (total (shapes taps cutoff))) (shapes taps cutoff)

-- SETTING where the number of taps or the cutoff breaks its rule
abbrev pub refusal_of : ℕ → Float → ℕ
refusal_of taps cutoff = refusal_no (taps_allowed taps && cutoff_allowed cutoff) true true true true

-- what a call gives: its number, and what stands in the slice then
abbrev pub designed : List Float → Float → ℕ × List Float
designed taps cutoff = answered (refusal_of (length taps) cutoff) (lowpass (length taps) cutoff) taps
