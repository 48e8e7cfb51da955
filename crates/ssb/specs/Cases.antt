-- Worked values of the SSB demodulator, by computation: both sidebands over one block, and who is refused at the edges. Assumes nothing.
use Rattle.std.specs.Prelude.{ℕ, ◌≡◌, refl, Bool, true, false, List, [], ◌∷◌, ◌++◌, replicate, Float}
use Rattle.std.specs.Float.{nan}
use Rattle.std.specs.Float.Ieee.{add, sub, mul, of_bits, of_int}
use Rattle.stage.specs.Floats.{plus_zero, whole}
use Rattle.fir.specs.Filter.{count_of, kept, output_at, outputs}
use Rattle.fir.specs.Dot.{odd_from}
use Rattle.ssb.specs.Answers.{answer, for_sideband, none}
use Rattle.ssb.specs.Sideband.{ssb_outs}
use Rattle.ssb.specs.Making.{new_refusal, made}
use Rattle.ssb.specs.Process.{process_refusal, processed}
use Rattle.ssb.specs.declared.SsbDone.{SsbDone}

abbrev zeros : ℕ → List Float
zeros n = replicate n plus_zero

-- ---- a block of two pairs, (5, 7) and (6, 8), where every tap is 2, the last Q was 3, and the oldest I are 10 and 20

abbrev given : Bool → SsbDone × List Float × List Float × List Float
given usb =
    processed (for_sideband usb) (replicate 65 (whole 2)) (zeros 63 ++ whole 3 ∷ []) (whole 10 ∷ whole 20 ∷ zeros 30) (whole 5 ∷ whole 7 ∷ whole 6 ∷ whole 8 ∷ [])
    (nan ∷ nan ∷ nan ∷ [])

-- the newest Q meets an even tap, and so its sum comes with the next pair: 10 + 2 x 3 and 20 + 2 x 7; a place behind the outputs stays
pub upper : given true ≡ (answer 0 (for_sideband true) 2, zeros 61 ++ whole 3 ∷ whole 7 ∷ whole 8 ∷ [], zeros 30 ++ whole 5 ∷ whole 6 ∷ [], whole 16 ∷ whole 34 ∷ nan ∷ [])
unfolding whole ssb_outs outputs output_at count_of kept odd_from add sub mul of_bits of_int
upper = refl

-- 10 - 2 x 3 and 20 - 2 x 7
pub lower : given false ≡ (answer 0 (for_sideband false) 2, zeros 61 ++ whole 3 ∷ whole 7 ∷ whole 8 ∷ [], zeros 30 ++ whole 5 ∷ whole 6 ∷ [], whole 4 ∷ whole 6 ∷ nan ∷ [])
unfolding whole ssb_outs outputs output_at count_of kept odd_from add sub mul of_bits of_int
lower = refl

-- ---- refusals

-- a number of taps that no Hilbert filter may have is a setting; one that it may, but that is not 65, a length
pub tap_edges :
    (new_refusal 64 63 32 ≡ 1)
    × (new_refusal 131 130 32 ≡ 1)
    × (new_refusal 63 62 32 ≡ 4)
    × (new_refusal 129 128 32 ≡ 4)
    × (new_refusal 65 64 32 ≡ 0)
tap_edges = (refl, refl, refl, refl, refl)

pub history_edges :
    (new_refusal 65 63 32 ≡ 4)
    × (new_refusal 65 64 31 ≡ 4)
    × (new_refusal 65 64 33 ≡ 4)
    × (process_refusal 65 65 32 2 1 ≡ 4)
    × (process_refusal 65 64 31 2 1 ≡ 4)
history_edges = (refl, refl, refl, refl, refl)

-- an odd input, and an output with one place too few
pub block_edges : (process_refusal 65 64 32 5 3 ≡ 4) × (process_refusal 65 64 32 6 3 ≡ 0) × (process_refusal 65 64 32 6 2 ≡ 5) × (process_refusal 65 64 32 0 0 ≡ 0)
block_edges = (refl, refl, refl, refl)

-- of several broken demands the first in the table's order
pub first_broken :
    (process_refusal 2 2 2 262_145 0 ≡ 1)
    × (process_refusal 63 2 2 262_145 0 ≡ 3)
    × (process_refusal 63 2 2 262_143 0 ≡ 4)
    × (process_refusal 65 64 32 262_143 0 ≡ 4)
    × (process_refusal 65 64 32 262_144 131_071 ≡ 5)
first_broken = (refl, refl, refl, refl, refl)

-- refused, a record of zeros, and the slices stay
pub refused_stays : made true (nan ∷ nan ∷ nan ∷ []) (nan ∷ []) [] ≡ (answer 4 none 0, nan ∷ nan ∷ nan ∷ [], nan ∷ [], [])
refused_stays = refl
