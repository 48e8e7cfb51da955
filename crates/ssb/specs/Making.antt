-- A demodulator made: what `new` gives, on acceptance and on refusal. Definitions only.
use Rattle.std.specs.Prelude.{ℕ, Bool, true, List, length, replicate, Float}
use Rattle.stage.specs.Refusal.{NONE, refusal_no, unless}
use Rattle.stage.specs.Floats.{plus_zero}
use Rattle.hilbert.specs.Rules.{taps_allowed}
use Rattle.hilbert.specs.Taps.{hilbert_taps}
use Rattle.ssb.specs.Rules.{lengths_fit}
use Rattle.ssb.specs.Answers.{answer, for_sideband, none}
use Rattle.ssb.specs.declared.SsbDone.{SsbDone}

-- SETTING for a number of taps that no Hilbert filter may have, LENGTH where a length is not that of SSB
abbrev pub new_refusal : ℕ → ℕ → ℕ → ℕ
new_refusal taps q_history i_history = refusal_no (taps_allowed taps) true true (lengths_fit taps q_history i_history) true

-- an accepted call: the answer, the taps, and two histories of zeros
abbrev pub begun : Bool → List Float → List Float → List Float → SsbDone × List Float × List Float × List Float
begun usb taps q_history i_history =
    (answer NONE (for_sideband usb) 0, hilbert_taps (length taps), replicate (length q_history) plus_zero, replicate (length i_history) plus_zero)

-- refused, a record of zeros, and the slices as they were
abbrev pub made : Bool → List Float → List Float → List Float → SsbDone × List Float × List Float × List Float
made usb taps q_history i_history =
    let number = new_refusal (length taps) (length q_history) (length i_history) in
    unless number (begun usb taps q_history i_history) (answer number none 0, taps, q_history, i_history)
