-- Worked values of the gain control, by computation: a loud pair and a quiet one, the ends of each rule, and who is struck. Assumes nothing.
use Rattle.std.specs.Prelude.{ℕ, ◌≡◌, refl, true, false, List, [], ◌∷◌, length, Float}
use Rattle.std.specs.Float.{nan, inf}
use Rattle.std.specs.Float.Ieee.{of_bits, add, sub, mul, div, lt, le}
use Rattle.root.specs.Root.{rooted}
use Rattle.stage.specs.Floats.{plus_zero, one}
use Rattle.stage.specs.Named.{single, minus_zero, quarter, half, above_one, huge}
use Rattle.stage.specs.Call.{Given}
use Rattle.agc.specs.declared.Agc.{Agc}
use Rattle.agc.specs.State.{answered, fresh, zeros, made}
use Rattle.agc.specs.Gain.{gain_after}
use Rattle.agc.specs.Step.{agc_answer}
use Rattle.agc.specs.Process.{process}

-- target 1, attack 0.5, decay 0.25
abbrev state : Float → Agc
state gain = record { gain = gain; target = one; attack = half; decay = quarter }

abbrev gives : ℕ → Agc → ℕ → List Float → Given Agc (List Float)
gives number s n left = record { refusal = number; state = s; struck = n; left = left }

-- (3, 4) is louder than the target: the gain falls by attack from 1 to about 0.6, and the pair becomes about (1.8, 2.4)
pub loud_pair : process (state one) (single 0x4040_0000 ∷ single 0x4080_0000 ∷ []) ≡ gives 0 (state (single 0x3f19_9999)) 0 (single 0x3fe6_6666 ∷ single 0x4019_9999 ∷ [])
unfolding agc_answer gain_after rooted add sub mul div lt le of_bits
loud_pair = refl

-- (0, 0.25) is quieter: the gain rises by decay from 1 to about 1.75
pub quiet_pair : process (state one) (plus_zero ∷ quarter ∷ []) ≡ gives 0 (state (single 0x3fdf_ffde)) 0 (plus_zero ∷ single 0x3edf_ffde ∷ [])
unfolding agc_answer gain_after rooted add sub mul div lt le of_bits
quiet_pair = refl

-- ---- the ends of the rules

-- the least float above 0 is taken as target; 0 and 1 for attack, -0.0 and 1 for decay
pub settings_taken :
    (made (single 1) plus_zero one ≡ answered 0 (fresh (single 1) plus_zero one) 0)
    × (made one one minus_zero ≡ answered 0 (fresh one one minus_zero) 0)
unfolding lt le of_bits
settings_taken = (refl, refl)

-- no target of 0, of either sign, and no infinite one; nothing above 1; no NaN
pub settings_refused :
    (made plus_zero half half ≡ answered 1 zeros 0)
    × (made minus_zero half half ≡ answered 1 zeros 0)
    × (made (inf false) half half ≡ answered 1 zeros 0)
    × (made nan half half ≡ answered 1 zeros 0)
    × (made one above_one half ≡ answered 1 zeros 0)
    × (made one half nan ≡ answered 1 zeros 0)
unfolding lt le of_bits
settings_refused = (refl, refl, refl, refl, refl, refl)

-- a gain that is not finite is STATE, and comes before an odd length; a negative gain is taken
pub gain_not_finite : process (state (inf true)) (one ∷ []) ≡ gives 2 (state (inf true)) 0 (one ∷ [])
unfolding lt le of_bits
gain_not_finite = refl

pub negative_gain : process (state (single 0xbf80_0000)) [] ≡ gives 0 (state (single 0xbf80_0000)) 0 []
unfolding lt le of_bits
negative_gain = refl

pub odd_length : process (state one) (one ∷ []) ≡ gives 4 (state one) 0 (one ∷ [])
unfolding lt le of_bits
odd_length = refl

pub over_the_limit : (xs : List Float) → length xs ≡ 262_146 → process (state one) xs ≡ gives 3 (state one) 0 xs
unfolding lt le of_bits
over_the_limit xs e = rw e

-- ---- who is struck: what is put out or stored counts, and nothing on the way to it

-- (1e30, 0) has an infinite magnitude, a gain of 0.5 all the same, and is not struck
pub infinite_magnitude : process (state one) (single 0x7149_f2ca ∷ plus_zero ∷ []) ≡ gives 0 (state half) 0 (single 0x70c9_f2ca ∷ plus_zero ∷ [])
unfolding agc_answer gain_after rooted add sub mul div lt le of_bits
infinite_magnitude = refl

-- silence with a target of 3e38 overflows the gain, and is struck
abbrev high : Agc
high = record { gain = one; target = huge; attack = half; decay = quarter }

pub finite_pair_struck : process high (plus_zero ∷ plus_zero ∷ []) ≡ gives 0 high 1 (plus_zero ∷ plus_zero ∷ [])
unfolding agc_answer gain_after rooted add sub mul div lt le of_bits
finite_pair_struck = refl

-- one bad half strikes the pair
pub bad_half : process (state one) (one ∷ nan ∷ []) ≡ gives 0 (state one) 1 (plus_zero ∷ plus_zero ∷ [])
unfolding agc_answer gain_after rooted add sub mul div lt le of_bits
bad_half = refl
