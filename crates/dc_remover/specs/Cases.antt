-- Worked values of the DC remover, by computation: marked cases 8 and 9 of document 01, the ends of each rule, and who is struck. Assumes nothing.
use Rattle.std.specs.Prelude.{ℕ, ◌≡◌, refl, false, List, [], ◌∷◌, length, Float}
use Rattle.std.specs.Float.{nan, inf}
use Rattle.std.specs.Float.Ieee.{of_bits, add, sub, mul, le}
use Rattle.stage.specs.Floats.{plus_zero, one}
use Rattle.stage.specs.Named.{single, minus_zero, quarter, half, above_one, greatest}
use Rattle.stage.specs.Call.{Given}
use Rattle.dc_remover.specs.declared.DcRemover.{DcRemover}
use Rattle.dc_remover.specs.State.{answered, made}
use Rattle.dc_remover.specs.Step.{mono_answer, pair_answer}
use Rattle.dc_remover.specs.Process.{process_mono, process, process_split}

abbrev three_quarters : Float
three_quarters = single 0x3f40_0000

abbrev least : Float
least = single 0xff7f_ffff

abbrev state : Float → Float → Float → DcRemover
state i q alpha = record { avg_i = i; avg_q = q; alpha = alpha }

abbrev fresh : DcRemover
fresh = state plus_zero plus_zero half

abbrev gives : {X : Type 0} → ℕ → DcRemover → ℕ → X → Given DcRemover X
gives number s n left = record { refusal = number; state = s; struck = n; left = left }

-- ---- the marked cases

-- case 8: mono, alpha 0.5, input 1, 1: 0.5, 0.25
pub case_8 : process_mono fresh (one ∷ one ∷ []) ≡ gives 0 (state three_quarters plus_zero half) 0 (half ∷ quarter ∷ [])
unfolding mono_answer le add sub mul of_bits
case_8 = refl

-- case 9: input 1, NaN, 1: 0.5, 0, 0.25, one struck
pub case_9 : process_mono fresh (one ∷ nan ∷ one ∷ []) ≡ gives 0 (state three_quarters plus_zero half) 1 (half ∷ plus_zero ∷ quarter ∷ [])
unfolding mono_answer le add sub mul of_bits
case_9 = refl

-- ---- the ends of the rules

-- 0, -0.0 and 1 are taken for alpha, and -0.0 is stored as it is
pub alpha_taken :
    (made plus_zero ≡ answered 0 (state plus_zero plus_zero plus_zero) 0)
    × (made minus_zero ≡ answered 0 (state plus_zero plus_zero minus_zero) 0)
    × (made one ≡ answered 0 (state plus_zero plus_zero one) 0)
unfolding le of_bits
alpha_taken = (refl, refl, refl)

-- the float above 1 and NaN are not: SETTING, and a record of zeros
pub alpha_refused :
    (made above_one ≡ answered 1 (state plus_zero plus_zero plus_zero) 0)
    × (made nan ≡ answered 1 (state plus_zero plus_zero plus_zero) 0)
unfolding le of_bits
alpha_refused = (refl, refl)

-- SETTING before STATE, and the state comes back as it was handed in
pub setting_first : process (state nan plus_zero nan) (one ∷ []) ≡ gives 1 (state nan plus_zero nan) 0 (one ∷ [])
unfolding le of_bits
setting_first = refl

-- Q's mean counts in a mono call too
pub mean_of_q : process_mono (state plus_zero (inf false) half) (one ∷ []) ≡ gives 2 (state plus_zero (inf false) half) 0 (one ∷ [])
unfolding le of_bits
mean_of_q = refl

-- an element over the limit: of a mono call, and of the longer slice of a split one
pub over_the_limit : (xs : List Float) → length xs ≡ 262_145 → (process_mono fresh xs ≡ gives 3 fresh 0 xs) × (process_split fresh ([], xs) ≡ gives 3 fresh 0 ([], xs))
unfolding le of_bits
over_the_limit xs e = (rw e, rw e)

-- an odd interleaved slice is LENGTH; a mono slice may be odd, and two slices of different lengths are taken to the end of the shorter
pub odd_length : process fresh (one ∷ []) ≡ gives 4 fresh 0 (one ∷ [])
unfolding le of_bits
odd_length = refl

pub shorter_slice : process_split fresh (one ∷ [], one ∷ nan ∷ []) ≡ gives 0 (state half half half) 0 (half ∷ [], half ∷ nan ∷ [])
unfolding pair_answer le add sub mul of_bits
shorter_slice = refl

-- ---- who is struck

-- one bad half strikes the pair: both outputs 0, both means as they were
pub bad_half : process fresh (one ∷ nan ∷ []) ≡ gives 0 fresh 1 (plus_zero ∷ plus_zero ∷ [])
unfolding pair_answer le add sub mul of_bits
bad_half = refl

-- a finite sample is struck where the output overflows
pub finite_sample_struck : process_mono (state least plus_zero plus_zero) (greatest ∷ []) ≡ gives 0 (state least plus_zero plus_zero) 1 (plus_zero ∷ [])
unfolding mono_answer le add sub mul of_bits
finite_sample_struck = refl
