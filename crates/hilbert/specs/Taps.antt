-- The taps of a Hilbert filter, as the Rust's `HilbertFilter::new` has them: all f32, left to right. Definitions only.
use Rattle.std.specs.Prelude.{ℕ, ◌+◌, ◌-◌, ◌/◌, ◌%◌, cond, List, eqb, Float}
use Rattle.std.specs.Float.{binary32}
use Rattle.std.specs.Float.Ieee.{of_bits, add, sub, mul, div}
use Rattle.angle.specs.Single.{PI32, two_pi32, cosine32}
use Rattle.stage.specs.Floats.{plus_zero, two, whole}
use Rattle.stage.specs.Counted.{counted}

-- 4 x PI is exact in f32; 6 x PI is rounded
abbrev pub four_pi32 : Float
four_pi32 = of_bits binary32 0x4149_0fdb

abbrev pub six_pi32 : Float
six_pi32 = of_bits binary32 0x4196_cbe4

-- a x cos(turns x i / m)
unfoldable pub ripple : Float → Float → ℕ → ℕ → Float
ripple a turns m i = mul binary32 a (cosine32 (div binary32 (mul binary32 turns (whole i)) (whole m)))

-- ((a0 - a1 c1) + a2 c2) - a3 c3 with a0 = 0.35875, a1 = 0.48829, a2 = 0.14128, a3 = 0.01168
unfoldable pub blackman_harris : ℕ → ℕ → Float
blackman_harris m i =
    sub binary32
    (add binary32 (sub binary32 (of_bits binary32 0x3eb7_ae14) (ripple (of_bits binary32 0x3efa_0126) two_pi32 m i)) (ripple (of_bits binary32 0x3e10_abb4) four_pi32 m i))
    (ripple (of_bits binary32 0x3c3f_5d79) six_pi32 m i)

-- 2 / (PI n), where n = i - mid is the distance from the middle
unfoldable pub kernel : ℕ → ℕ → Float
kernel mid i = div binary32 two (mul binary32 PI32 (sub binary32 (whole i) (whole mid)))

-- zero at even distance from the middle, taps / 2
unfoldable pub tap_at : ℕ → ℕ → Float
tap_at taps i = cond (eqb ((i + taps / 2) % 2) 1) (mul binary32 (kernel (taps / 2) i) (blackman_harris (taps - 1) i)) plus_zero

abbrev pub hilbert_taps : ℕ → List Float
hilbert_taps taps = counted (tap_at taps) taps
