-- Worked values of the filters' definitions, by computation. Assumes nothing.
use Rattle.std.specs.Prelude.{ℕ, ◌≡◌, refl, List, [], ◌∷◌, pos, Float}
use Rattle.std.specs.Float.{nan, binary32}
use Rattle.std.specs.Float.Ieee.{add, mul, of_bits, of_int}
use Rattle.stage.specs.InTurn.{Given, call_outs}
use Rattle.stage.specs.Floats.{plus_zero}
use Rattle.fir.specs.Filter.{Filter, Memory, count_of, next_phase, kept, output_at, outputs, filter_outs, filter_end}
use Rattle.fir.specs.Dot.{dot_from, odd_from}
use Rattle.fir.specs.Into.{filtered_into, filtered_odd_into}

abbrev whole : ℕ → Float
whole k = of_int binary32 (pos k)

-- taps 2, 3, 5
abbrev taps : List Float
taps = whole 2 ∷ whole 3 ∷ whole 5 ∷ []

-- ceil(max(0, n - phase) / factor), and the phase after it
pub counts : (count_of 2 0 5 ≡ 3) × (next_phase 2 0 5 ≡ 1) × (count_of 2 1 1 ≡ 0) × (next_phase 2 1 1 ≡ 0) × (count_of 64 63 64 ≡ 1) × (next_phase 64 63 64 ≡ 63)
unfolding count_of next_phase
counts = (refl, refl, refl, refl, refl, refl)

-- a short block keeps older samples
pub short_block : kept {X = ℕ} (1 ∷ 2 ∷ 3 ∷ []) (4 ∷ []) ≡ 2 ∷ 3 ∷ 4 ∷ []
unfolding kept
short_block = refl

pub long_block : kept {X = ℕ} (1 ∷ 2 ∷ []) (3 ∷ 4 ∷ 5 ∷ []) ≡ 4 ∷ 5 ∷ []
unfolding kept
long_block = refl

-- 7 x 2 + 8 x 3 + 9 x 5, and the tap 1 alone
pub every_tap_case : dot_from plus_zero (whole 7 ∷ whole 8 ∷ whole 9 ∷ []) taps ≡ whole 83
unfolding dot_from add mul of_bits of_int
every_tap_case = refl

pub odd_taps_case : odd_from plus_zero (whole 7 ∷ whole 8 ∷ whole 9 ∷ []) taps ≡ whole 24
unfolding odd_from add mul of_bits of_int
odd_taps_case = refl

-- windows as they are, two apart, in two blocks: the first window of the second block begins in the first
abbrev windows : Filter ℕ (List ℕ)
windows = record { taps = 2; factor = 2; weigh = λ w. w }

abbrev blockwise : Memory ℕ → List ℕ → Given (Memory ℕ) (List ℕ)
blockwise s b = record { refusal = 0; out = filter_outs windows s b; end = filter_end windows s b }

pub in_blocks : call_outs blockwise (record { phase = 0; history = 0 ∷ [] }) ((1 ∷ []) ∷ (2 ∷ 3 ∷ 4 ∷ []) ∷ []) ≡ (0 ∷ 1 ∷ []) ∷ (2 ∷ 3 ∷ []) ∷ []
unfolding outputs output_at count_of next_phase kept
in_blocks = refl

-- a place behind the outputs stays
pub rest_stays : filtered_odd_into taps (whole 0 ∷ whole 0 ∷ []) (whole 7 ∷ []) (nan ∷ nan ∷ []) ≡ (1, whole 0 ∷ nan ∷ [])
unfolding outputs output_at count_of odd_from add mul of_bits of_int
rest_stays = refl

-- lengths that do not fit: no output, and the slice stays
pub unfit_stays : filtered_into 1 0 taps (whole 0 ∷ []) (whole 7 ∷ []) (nan ∷ []) ≡ (0, nan ∷ [])
unfit_stays = refl
