-- Worked values of the decimator, by computation: the marked cases 5, 6 and 7 of document 01, and who is refused at the edges. Assumes nothing.
use Rattle.std.specs.Prelude.{ℕ, ◌≡◌, refl, List, [], ◌∷◌, false, pos, negsuc, Float}
use Rattle.std.specs.Float.{nan, fin, binary32}
use Rattle.std.specs.Float.Ieee.{add, mul, lt, le, of_bits, of_int}
use Rattle.fir.specs.Filter.{count_of, next_phase, kept, output_at, outputs}
use Rattle.fir.specs.Dot.{dot_from}
use Rattle.decimator.specs.Answers.{answer}
use Rattle.decimator.specs.Making.{new_refusal, with_factor_refusal}
use Rattle.decimator.specs.Process.{process_refusal, processed}
use Rattle.decimator.specs.Settling.{reset_refusal, update_refusal, cleared}
use Rattle.decimator.specs.declared.Decimator.{Decimator}

abbrev whole : ℕ → Float
whole k = of_int binary32 (pos k)

-- 0.25, 0.5, 0.25
abbrev quarter : Float
quarter = fin false 1 (negsuc 1)

abbrev taps : List Float
taps = quarter ∷ fin false 1 (negsuc 0) ∷ quarter ∷ []

abbrev state : ℕ → ℕ → Decimator
state factor phase = record { factor = factor; phase = phase }

-- ---- a stream in three calls; a place behind the outputs stays

-- marked case 5: fresh, input 1 2 3 4 5: outputs 0.25, 2, 4; history 4 5; phase 1
pub case_5 : processed (state 2 0) taps (whole 0 ∷ whole 0 ∷ []) (whole 1 ∷ whole 2 ∷ whole 3 ∷ whole 4 ∷ whole 5 ∷ []) (nan ∷ nan ∷ nan ∷ nan ∷ [])
    ≡ (answer 0 (state 2 1) 3, whole 4 ∷ whole 5 ∷ [], quarter ∷ whole 2 ∷ whole 4 ∷ nan ∷ [])
unfolding outputs output_at count_of next_phase kept dot_from add mul of_bits of_int
case_5 = refl

-- marked case 6: then input 6: none; history 5 6; phase 0
pub case_6 : processed (state 2 1) taps (whole 4 ∷ whole 5 ∷ []) (whole 6 ∷ []) (nan ∷ []) ≡ (answer 0 (state 2 0) 0, whole 5 ∷ whole 6 ∷ [], nan ∷ [])
unfolding outputs output_at count_of next_phase kept dot_from add mul of_bits of_int
case_6 = refl

-- marked case 7: then 7 8: output 6; phase 0
pub case_7 : processed (state 2 0) taps (whole 5 ∷ whole 6 ∷ []) (whole 7 ∷ whole 8 ∷ []) (nan ∷ []) ≡ (answer 0 (state 2 0) 1, whole 7 ∷ whole 8 ∷ [], whole 6 ∷ [])
unfolding outputs output_at count_of next_phase kept dot_from add mul of_bits of_int
case_7 = refl

-- ---- refusals of the making calls, at a cutoff of a quarter

pub factor_edges : (new_refusal 1 quarter 3 2 ≡ 1) × (new_refusal 2 quarter 3 2 ≡ 0) × (new_refusal 64 quarter 3 2 ≡ 0) × (new_refusal 65 quarter 3 2 ≡ 1)
unfolding of_bits le lt
factor_edges = (refl, refl, refl, refl)

pub tap_edges : (new_refusal 2 quarter 1 0 ≡ 1) × (new_refusal 2 quarter 3 2 ≡ 0) × (new_refusal 2 quarter 769 768 ≡ 0) × (new_refusal 2 quarter 771 770 ≡ 1)
unfolding of_bits le lt
tap_edges = (refl, refl, refl, refl)

-- an even number of taps is SETTING, another odd number than 12 x factor + 1 is LENGTH
pub twelvefold_edges :
    (with_factor_refusal 2 24 23 ≡ 1)
    × (with_factor_refusal 2 25 24 ≡ 0)
    × (with_factor_refusal 2 27 26 ≡ 4)
    × (with_factor_refusal 2 25 25 ≡ 4)
    × (with_factor_refusal 64 769 768 ≡ 0)
    × (with_factor_refusal 65 781 780 ≡ 1)
twelvefold_edges = (refl, refl, refl, refl, refl, refl)

-- ---- refusals of a block: three outputs of five samples

pub phase_edges : (process_refusal (state 2 1) 3 2 5 3 ≡ 0) × (process_refusal (state 2 2) 3 2 5 3 ≡ 1)
unfolding count_of
phase_edges = (refl, refl)

pub room_edges : (process_refusal (state 2 0) 3 2 5 3 ≡ 0) × (process_refusal (state 2 0) 3 2 5 2 ≡ 5)
unfolding count_of
room_edges = (refl, refl)

-- a block not longer than phase needs no room
pub no_room_needed : process_refusal (state 2 1) 3 2 1 0 ≡ 0
unfolding count_of
no_room_needed = refl

-- of several broken demands the first in the table's order
pub first_broken :
    (process_refusal (state 2 2) 3 3 262_145 0 ≡ 1)
    × (process_refusal (state 2 1) 3 3 262_145 0 ≡ 3)
    × (process_refusal (state 2 1) 3 3 262_144 0 ≡ 4)
    × (process_refusal (state 2 1) 3 2 262_144 0 ≡ 5)
unfolding count_of
first_broken = (refl, refl, refl, refl)

-- ---- the other calls

-- a phase that would be cleared is checked all the same; a cutoff of a half is not allowed
pub checked_all_the_same : (reset_refusal (state 2 2) 3 2 ≡ 1) × (update_refusal (state 2 1) (fin false 1 (negsuc 0)) 3 2 ≡ 1)
unfolding of_bits le lt
checked_all_the_same = (refl, refl)

-- refused, the state and the history stay
pub refused_stays : cleared (state 2 1) taps (nan ∷ []) ≡ (answer 4 (state 2 1) 0, nan ∷ [])
refused_stays = refl
