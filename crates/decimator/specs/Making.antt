-- A decimator made: what `new` and `with_factor` give, on acceptance and on refusal. Definitions only.
use Rattle.std.specs.Prelude.{ℕ, ◌+◌, ◌*◌, true, ◌&&◌, List, pos, eqb, length, replicate, Float}
use Rattle.std.specs.Float.{binary32}
use Rattle.std.specs.Float.Ieee.{of_bits, of_int, div}
use Rattle.stage.specs.Refusal.{NONE, refusal_no, unless}
use Rattle.stage.specs.Floats.{plus_zero}
use Rattle.fir.specs.Filter.{history_fits}
use Rattle.lowpass.specs.Rules.{taps_allowed, cutoff_allowed}
use Rattle.lowpass.specs.Lowpass.{lowpass}
use Rattle.decimator.specs.Rules.{factor_allowed}
use Rattle.decimator.specs.Answers.{answer, fresh, none}
use Rattle.decimator.specs.declared.Decimated.{Decimated}

-- an accepted call: the answer, the taps of the lowpass filter, and a history of zeros
abbrev pub begun : ℕ → Float → List Float → List Float → Decimated × List Float × List Float
begun factor cutoff taps history = (answer NONE (fresh factor) 0, lowpass (length taps) cutoff, replicate (length history) plus_zero)

-- by the number of its refusal: refused, a record of zeros, and the slices as they were
abbrev pub begun_unless : ℕ → ℕ → Float → List Float → List Float → Decimated × List Float × List Float
begun_unless number factor cutoff taps history = unless number (begun factor cutoff taps history) (answer number none 0, taps, history)

-- SETTING for factor, cutoff or number of taps, LENGTH for the history
abbrev pub new_refusal : ℕ → Float → ℕ → ℕ → ℕ
new_refusal factor cutoff taps history =
    refusal_no (factor_allowed factor && cutoff_allowed cutoff && taps_allowed taps) true true (history_fits taps history) true

abbrev pub made : ℕ → Float → List Float → List Float → Decimated × List Float × List Float
made factor cutoff taps history = begun_unless (new_refusal factor cutoff (length taps) (length history)) factor cutoff taps history

-- 0.75 / factor, one f32 division
unfoldable pub cutoff_for : ℕ → Float
cutoff_for factor = div binary32 (of_bits binary32 0x3f40_0000) (of_int binary32 (pos factor))

-- SETTING for factor or number of taps, LENGTH also where there are not 12 x factor + 1 taps
abbrev pub with_factor_refusal : ℕ → ℕ → ℕ → ℕ
with_factor_refusal factor taps history =
    refusal_no (factor_allowed factor && taps_allowed taps) true true (history_fits taps history && eqb taps (12 * factor + 1)) true

abbrev pub made_with_factor : ℕ → List Float → List Float → Decimated × List Float × List Float
made_with_factor factor taps history =
    begun_unless (with_factor_refusal factor (length taps) (length history)) factor (cutoff_for factor) taps history
