-- Worked values of the definitions: closed, so antt computes each, and a definition that gives another fails the build. Assumes nothing.
use Rattle.std.specs.Prelude.{ℕ, ◌+◌, ◌≡◌, refl, true, false, cond, List, [], ◌∷◌, leb, Float}
use Rattle.std.specs.Float.{nan, inf, binary32, binary64}
use Rattle.std.specs.Float.Ieee.{of_bits, lt, le, add, sub, mul}
use Rattle.stage.specs.Refusal.{refusal_no}
use Rattle.stage.specs.Length.{is_within, is_even}
use Rattle.stage.specs.Floats.{plus_zero, one, blend_of}
use Rattle.stage.specs.Settings.{in_unit, is_positive, not_negative}
use Rattle.stage.specs.Run.{Answer, struck, kept, outs, end, strikes}
use Rattle.stage.specs.Blocks.{block_outs}
use Rattle.stage.specs.Drop.{sift}
use Rattle.stage.specs.Layout.{pairs, zip, over}

-- ---- lengths and numbers

pub limit_itself : is_within 262_144 ≡ true
limit_itself = refl

pub limit_and_one : is_within 262_145 ≡ false
limit_and_one = refl

pub odd_length : is_even 3 ≡ false
odd_length = refl

-- of several broken demands the first in the table's order is told
pub first_broken :
    (refusal_no false false false false false ≡ 1)
    × (refusal_no true false false false false ≡ 2)
    × (refusal_no true true false false false ≡ 3)
    × (refusal_no true true true false false ≡ 4)
    × (refusal_no true true true true false ≡ 5)
    × (refusal_no true true true true true ≡ 0)
first_broken = (refl, refl, refl, refl, refl, refl)

-- ---- settings, by bit patterns: 8000_0000 is -0.0, 8000_0001 the float below it, 3f80_0001 the float above 1.0

abbrev single : ℕ → Float
single b = of_bits binary32 b

pub unit_takes : (in_unit plus_zero ≡ true) × (in_unit (single 0x8000_0000) ≡ true) × (in_unit one ≡ true)
unfolding of_bits le
unit_takes = (refl, refl, refl)

pub unit_refuses : (in_unit (single 0x8000_0001) ≡ false) × (in_unit (single 0x3f80_0001) ≡ false) × (in_unit nan ≡ false)
unfolding of_bits le
unit_refuses = (refl, refl, refl)

pub no_zero_is_positive : (is_positive plus_zero ≡ false) × (is_positive (single 0x8000_0000) ≡ false)
unfolding of_bits lt
no_zero_is_positive = (refl, refl)

pub positive_is_finite : (is_positive (inf false) ≡ false) × (is_positive nan ≡ false)
unfolding lt
positive_is_finite = (refl, refl)

pub least_positive : (is_positive (single 1) ≡ true) × (is_positive (of_bits binary64 1) ≡ true)
unfolding of_bits lt
least_positive = (refl, refl)

pub minus_zero_is_not_negative : (not_negative (single 0x8000_0000) ≡ true) × (not_negative (single 0x8000_0001) ≡ false) × (not_negative (inf false) ≡ false)
unfolding of_bits le
minus_zero_is_not_negative = (refl, refl, refl)

pub same_in_f64 : (of_bits binary64 0 ≡ plus_zero) × (of_bits binary64 0x3ff0_0000_0000_0000 ≡ one)
unfolding of_bits
same_in_f64 = (refl, refl)

-- a quarter of the way from 1.0 to 5.0
pub blend_quarter : blend_of (single 0x3e80_0000) one (single 0x40a0_0000) ≡ single 0x4000_0000
unfolding of_bits add sub mul
blend_quarter = refl

-- ---- a run: the total so far, where a sample that would bring it above 3 is struck

abbrev total : ℕ → ℕ → Answer ℕ ℕ
total s x = cond (leb (s + x) 3) (kept (s + x) (s + x)) struck

abbrev samples : List ℕ
samples = 1 ∷ 3 ∷ 2 ∷ []

-- the struck one puts out silence, leaves the total and is counted
pub one_struck : (outs total 9 0 samples ≡ 1 ∷ 9 ∷ 3 ∷ []) × (end total 0 samples ≡ 3) × (strikes total 0 samples ≡ 1)
one_struck = (refl, refl, refl)

-- cut anywhere, also with an empty block
pub in_blocks : block_outs total 9 0 ((1 ∷ 3 ∷ []) ∷ [] ∷ (2 ∷ []) ∷ []) ≡ 1 ∷ 9 ∷ 3 ∷ []
in_blocks = refl

pub struck_dropped : sift total 0 samples ≡ 1 ∷ 2 ∷ []
struck_dropped = refl

-- ---- layouts

pub odd_one_left_out : pairs samples ≡ (1, 3) ∷ []
odd_one_left_out = refl

pub to_the_shorter : zip samples (7 ∷ []) ≡ (1, 7) ∷ []
to_the_shorter = refl

pub rest_stays : over (7 ∷ []) samples ≡ 7 ∷ 3 ∷ 2 ∷ []
rest_stays = refl
