-- Worked values of the oscillator, by computation: half the rate at two rates, a still oscillator, the turn that an empty call takes off, and who is refused. Assumes nothing.
use Rattle.std.specs.Prelude.{ℕ, ◌≡◌, refl, true, false, [], ◌∷◌, Float}
use Rattle.std.specs.Float.{nan, inf, binary32, binary64}
use Rattle.std.specs.Float.Ieee.{of_bits, add, sub, mul, div, rem, lt, le, eq, neg, of_int}
use Rattle.number.specs.Narrow.{narrowed}
use Rattle.angle.specs.Numbers as wide
use Rattle.angle.specs.Turn.{sined, cosined, sine_of, cosine_of, reduced, pulled, nested, step}
use Rattle.nco.specs.declared.Nco.{Nco}
use Rattle.nco.specs.Mix.{increment_of, mixed_at, spun, spin, mixed_outs, phase_after}
use Rattle.nco.specs.Rules.{tuning_refusal, mixing_refusal, resting_refusal}
use Rattle.nco.specs.Call.{nought, zeros, mixed}

abbrev double : ℕ → Float
double b = of_bits binary64 b

abbrev float : ℕ → Float
float b = of_bits binary32 b

-- half the rate is an increment of PI: as computed it is PI at a rate of 3 Hz, and the float above PI at 13 Hz
pub half_the_rate : (tuning_refusal (double 0x3ff8_0000_0000_0000) (double 0x4008_0000_0000_0000) ≡ 0) × (tuning_refusal (double 0x401a_0000_0000_0000) (double 0x402a_0000_0000_0000) ≡ 1)
unfolding tuning_refusal increment_of of_bits mul div le lt eq neg
half_the_rate = (refl, refl)

-- a rate of 0, an infinite frequency and NaN are refused
pub bad_tunings : (tuning_refusal nought nought ≡ 1) × (tuning_refusal (inf false) (double 0x4008_0000_0000_0000) ≡ 1) × (tuning_refusal nan (double 0x4008_0000_0000_0000) ≡ 1)
unfolding tuning_refusal increment_of of_bits mul div le lt eq neg
bad_tunings = (refl, refl, refl)

-- an oscillator that stands still at the phase p
abbrev still : Float → Nco
still p = record { phase = p; phase_inc = nought; rotator_i = double 0x3ff0_0000_0000_0000; rotator_q = nought }

-- at phase 0 it gives 1, 0 back as it is, and NaN passes to both
pub still_passes : mixed_outs (still nought) (float 0x3f80_0000 ∷ float 0 ∷ nan ∷ float 0 ∷ []) ≡ float 0x3f80_0000 ∷ float 0 ∷ nan ∷ nan ∷ []
unfolding mixed_outs spin mixed_at spun narrowed sined cosined sine_of cosine_of reduced pulled nested step wide.whole of_bits add sub mul div rem lt eq neg of_int
still_passes = refl

-- an empty call takes one turn off a phase of 4
pub empty_takes_a_turn : mixed (still (double 0x4010_0000_0000_0000)) [] ≡ (record { refusal = 0; state = still (double 0xc002_43f6_a888_5a30) }, [])
unfolding mixed mixing_refusal mixed_outs phase_after pulled of_bits sub add le lt eq neg
empty_takes_a_turn = refl

-- a phase that is not finite is STATE, also for `reset`; a record of zeros is taken; of a bad increment and a bad phase SETTING is told
pub states : (mixing_refusal (still nan) 2 ≡ 2) × (resting_refusal (still (inf true)) ≡ 2) × (mixing_refusal zeros 2 ≡ 0) × (mixing_refusal zeros 3 ≡ 4) × (mixing_refusal zeros 262_146 ≡ 3)
unfolding mixing_refusal resting_refusal of_bits le lt eq neg
states = (refl, refl, refl, refl, refl)

pub first_told : resting_refusal (record { phase = nan; phase_inc = double 0x4010_0000_0000_0000; rotator_i = nought; rotator_q = nought }) ≡ 1
unfolding resting_refusal of_bits le lt eq neg
first_told = refl
