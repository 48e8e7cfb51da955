-- Worked values of the AM demodulator, by computation: marked case 12 of document 01, the seeding, a struck pair, the ends of the rules. Assumes nothing.
use Rattle.std.specs.Prelude.{ℕ, ◌≡◌, refl, true, List, [], ◌∷◌, Float}
use Rattle.std.specs.Float.{nan, inf, binary32}
use Rattle.std.specs.Float.Ieee.{of_bits, add, sub, mul, le, eq}
use Rattle.root.specs.Root.{rooted}
use Rattle.stage.specs.Floats.{plus_zero, one}
use Rattle.stage.specs.Into.{Put}
use Rattle.am.specs.declared.AmDemodulator.{AmDemodulator}
use Rattle.am.specs.State.{fresh}
use Rattle.am.specs.Step.{size_of, mean_after, passed, am_step}
use Rattle.am.specs.Process.{process_into}

abbrev float : ℕ → Float
float b = of_bits binary32 b

-- the fresh demodulator with another mean
abbrev with_mean : Float → AmDemodulator
with_mean mean = record { dc_alpha = float 0x3ba3_d70a; dc_mean = mean; hp_alpha = float 0x3d4c_cccd; hp_state = plus_zero }

abbrev gives : AmDemodulator → ℕ → ℕ → List Float → Put Float AmDemodulator
gives s count struck left = record { refusal = 0; state = s; count = count; struck = struck; left = left }

abbrev refuses : ℕ → AmDemodulator → List Float → Put Float AmDemodulator
refuses number s left = record { refusal = number; state = s; count = 0; struck = 0; left = left }

abbrev five : Float
five = float 0x40a0_0000

-- case 12: fresh, (3, 4): 0; the mean is seeded with 5
pub case_12 : process_into fresh.state (float 0x4040_0000 ∷ float 0x4080_0000 ∷ []) (nan ∷ []) ≡ gives (with_mean five) 1 0 (plus_zero ∷ [])
unfolding am_step passed mean_after size_of rooted of_bits add sub mul le eq
case_12 = refl

-- a mean of -0.0 equals 0, and is seeded too
pub minus_zero_seeded : process_into (with_mean (float 0x8000_0000)) (float 0x4040_0000 ∷ float 0x4080_0000 ∷ []) (nan ∷ []) ≡ gives (with_mean five) 1 0 (plus_zero ∷ [])
unfolding am_step passed mean_after size_of rooted of_bits add sub mul le eq
minus_zero_seeded = refl

-- an infinite magnitude is struck: a pair of 1e30 overflows
pub overflow_struck : process_into (with_mean five) (float 0x7149_f2ca ∷ plus_zero ∷ []) (one ∷ []) ≡ gives (with_mean five) 1 1 (plus_zero ∷ [])
unfolding am_step passed mean_after size_of rooted of_bits add sub mul le eq
overflow_struck = refl

-- an odd input with too little room is LENGTH, room one short is ROOM, a mean that is not finite is STATE
pub refusals :
    (process_into (with_mean five) (one ∷ []) [] ≡ refuses 4 (with_mean five) [])
    × (process_into (with_mean five) (one ∷ one ∷ []) [] ≡ refuses 5 (with_mean five) [])
    × (process_into (with_mean (inf true)) [] [] ≡ refuses 2 (with_mean (inf true)) [])
unfolding of_bits le
refusals = (refl, refl, refl)
