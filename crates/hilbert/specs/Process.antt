-- A block of samples: what `process_into` gives, on acceptance and on refusal. Definitions only.
use Rattle.std.specs.Prelude.{ℕ, true, List, leb, length, Float}
use Rattle.stage.specs.Refusal.{NONE, refusal_no, unless}
use Rattle.stage.specs.Length.{is_within}
use Rattle.stage.specs.Layout.{over}
use Rattle.fir.specs.Filter.{history_fits, kept}
use Rattle.fir.specs.Each.{each_outs}
use Rattle.fir.specs.Dot.{odd_taps}
use Rattle.hilbert.specs.Rules.{taps_allowed}
use Rattle.hilbert.specs.Answers.{answer}
use Rattle.hilbert.specs.declared.HilbertDone.{HilbertDone}

-- of the lengths of taps, history, input and output: SETTING, LIMIT, LENGTH or ROOM
abbrev pub process_refusal : ℕ → ℕ → ℕ → ℕ → ℕ
process_refusal taps history n room = refusal_no (taps_allowed taps) true (is_within n) (history_fits taps history) (leb n room)

-- an accepted call: the answer, the history, and the output slice with the filter's outputs over what it held
abbrev pub accepted : List Float → List Float → List Float → List Float → HilbertDone × List Float × List Float
accepted taps history input output = (answer NONE (length input), kept history input, over (each_outs (odd_taps taps) history input) output)

-- refused, nothing has changed
abbrev pub processed : List Float → List Float → List Float → List Float → HilbertDone × List Float × List Float
processed taps history input output =
    let number = process_refusal (length taps) (length history) (length input) (length output) in
    unless number (accepted taps history input output) (answer number 0, history, output)
