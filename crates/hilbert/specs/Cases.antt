-- Worked values of the Hilbert filter, by computation: three and five taps, a block, and who is refused at the edges. Assumes nothing.
use Rattle.std.specs.Prelude.{ℕ, ◌≡◌, refl, [], ◌∷◌, Float}
use Rattle.std.specs.Float.{nan, binary32}
use Rattle.std.specs.Float.Ieee.{of_bits, add, sub, mul, div, rem, lt, eq, neg, of_int}
use Rattle.number.specs.Narrow.{narrowed}
use Rattle.angle.specs.Numbers as wide
use Rattle.angle.specs.Turn.{cosined, cosine_of, reduced, pulled, nested, step}
use Rattle.stage.specs.Floats.{whole}
use Rattle.fir.specs.Filter.{count_of, kept, output_at, outputs}
use Rattle.fir.specs.Dot.{odd_from}
use Rattle.hilbert.specs.Taps.{ripple, blackman_harris, kernel, tap_at, hilbert_taps}
use Rattle.hilbert.specs.Answers.{answer}
use Rattle.hilbert.specs.Making.{new_refusal, made}
use Rattle.hilbert.specs.Process.{process_refusal, processed}

abbrev float : ℕ → Float
float b = of_bits binary32 b

-- ---- taps

-- with three the sum takes the middle one alone, which is zero
pub three_taps : hilbert_taps 3 ≡ float 0xb820_2095 ∷ float 0 ∷ float 0x3820_2095 ∷ []
unfolding whole ripple blackman_harris kernel tap_at cosined cosine_of reduced pulled nested step wide.whole narrowed of_bits add sub mul div rem lt eq neg of_int
three_taps = refl

-- -0.138.. and 0.138..: the rounded cosines are not symmetric to the last bit
pub five_taps : hilbert_taps 5 ≡ float 0 ∷ float 0xbe0d_c4b6 ∷ float 0 ∷ float 0x3e0d_c4b5 ∷ float 0 ∷ []
unfolding whole ripple blackman_harris kernel tap_at cosined cosine_of reduced pulled nested step wide.whole narrowed of_bits add sub mul div rem lt eq neg of_int
five_taps = refl

-- ---- a block: 2 x 3 + 4 x 7 and 3 x 3 + 5 x 7; the history is the last four, and a place behind the outputs stays

pub block :
    processed (whole 2 ∷ whole 3 ∷ whole 5 ∷ whole 7 ∷ whole 11 ∷ []) (whole 1 ∷ whole 2 ∷ whole 3 ∷ whole 4 ∷ []) (whole 5 ∷ whole 6 ∷ []) (nan ∷ nan ∷ nan ∷ [])
    ≡ (answer 0 2, whole 3 ∷ whole 4 ∷ whole 5 ∷ whole 6 ∷ [], whole 34 ∷ whole 44 ∷ nan ∷ [])
unfolding whole outputs output_at count_of kept odd_from add mul of_bits of_int
block = refl

-- ---- refusals

-- the number of taps is odd, from 3 to 129
pub tap_edges :
    (new_refusal 1 0 ≡ 1)
    × (new_refusal 2 1 ≡ 1)
    × (new_refusal 3 2 ≡ 0)
    × (new_refusal 4 3 ≡ 1)
    × (new_refusal 129 128 ≡ 0)
    × (new_refusal 131 130 ≡ 1)
tap_edges = (refl, refl, refl, refl, refl, refl)

-- and the same of a block
pub block_tap_edges :
    (process_refusal 1 0 0 0 ≡ 1)
    × (process_refusal 2 1 0 0 ≡ 1)
    × (process_refusal 3 2 0 0 ≡ 0)
    × (process_refusal 129 128 0 0 ≡ 0)
    × (process_refusal 131 130 0 0 ≡ 1)
block_tap_edges = (refl, refl, refl, refl, refl)

pub history_edges : (new_refusal 3 1 ≡ 4) × (new_refusal 3 3 ≡ 4) × (process_refusal 3 1 5 5 ≡ 4) × (process_refusal 3 3 5 5 ≡ 4)
history_edges = (refl, refl, refl, refl)

-- the input may be odd
pub room_edges : (process_refusal 3 2 5 5 ≡ 0) × (process_refusal 3 2 5 4 ≡ 5)
room_edges = (refl, refl)

-- of several broken demands the first in the table's order
pub first_broken :
    (process_refusal 2 2 262_145 0 ≡ 1)
    × (process_refusal 3 3 262_145 0 ≡ 3)
    × (process_refusal 3 3 262_144 0 ≡ 4)
    × (process_refusal 3 2 262_144 0 ≡ 5)
    × (process_refusal 3 2 262_144 262_144 ≡ 0)
first_broken = (refl, refl, refl, refl, refl)

-- refused, the slices stay
pub refused_stays : made (nan ∷ nan ∷ []) (nan ∷ []) ≡ (answer 1 0, nan ∷ nan ∷ [], nan ∷ [])
refused_stays = refl
