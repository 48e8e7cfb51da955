-- A block of interleaved pairs: what `process_into` gives, on acceptance and on refusal. Definitions only.
use Rattle.std.specs.Prelude.{ℕ, ◌/◌, true, ◌&&◌, List, leb, length, Float}
use Rattle.stage.specs.Refusal.{NONE, refusal_no, unless}
use Rattle.stage.specs.Length.{is_within, is_even}
use Rattle.stage.specs.Layout.{pairs, over}
use Rattle.hilbert.specs.Rules.{taps_allowed}
use Rattle.ssb.specs.Rules.{lengths_fit}
use Rattle.ssb.specs.Answers.{answer}
use Rattle.ssb.specs.Sideband.{Histories, histories, ssb_outs, ssb_end}
use Rattle.ssb.specs.declared.SsbDemodulator.{SsbDemodulator}
use Rattle.ssb.specs.declared.SsbDone.{SsbDone}

-- of the lengths of taps, histories, input and output: SETTING, LIMIT, LENGTH or ROOM
abbrev pub process_refusal : ℕ → ℕ → ℕ → ℕ → ℕ → ℕ
process_refusal taps q_history i_history n room =
    refusal_no (taps_allowed taps) true (is_within n) (is_even n && lengths_fit taps q_history i_history) (leb (n / 2) room)

-- an accepted call: the answer, the histories of Q and I, and the output slice with the outputs over what it held
abbrev pub accepted : SsbDemodulator → List Float → Histories → List Float → List Float → SsbDone × List Float × List Float × List Float
accepted d taps h input output =
    let end = ssb_end h (pairs input) in
    (answer NONE d (length input / 2), end.q, end.i, over (ssb_outs d.is_usb taps h (pairs input)) output)

-- refused, nothing has changed
abbrev pub processed : SsbDemodulator → List Float → List Float → List Float → List Float → List Float → SsbDone × List Float × List Float × List Float
processed d taps q_history i_history input output =
    let number = process_refusal (length taps) (length q_history) (length i_history) (length input) (length output) in
    unless number (accepted d taps (histories q_history i_history) input output) (answer number d 0, q_history, i_history, output)
