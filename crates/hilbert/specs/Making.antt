-- A Hilbert filter made: what `new` gives, on acceptance and on refusal. Definitions only.
use Rattle.std.specs.Prelude.{ℕ, true, List, length, replicate, Float}
use Rattle.stage.specs.Refusal.{NONE, refusal_no, unless}
use Rattle.stage.specs.Floats.{plus_zero}
use Rattle.fir.specs.Filter.{history_fits}
use Rattle.hilbert.specs.Rules.{taps_allowed}
use Rattle.hilbert.specs.Taps.{hilbert_taps}
use Rattle.hilbert.specs.Answers.{answer}
use Rattle.hilbert.specs.declared.HilbertDone.{HilbertDone}

-- SETTING for the number of taps, LENGTH for the history
abbrev pub new_refusal : ℕ → ℕ → ℕ
new_refusal taps history = refusal_no (taps_allowed taps) true true (history_fits taps history) true

-- the answer, the taps and a history of zeros; refused, the slices as they were
abbrev pub made : List Float → List Float → HilbertDone × List Float × List Float
made taps history =
    let number = new_refusal (length taps) (length history) in
    unless number (answer NONE 0, hilbert_taps (length taps), replicate (length history) plus_zero) (answer number 0, taps, history)
