-- A block of samples: what `process_into` gives, on acceptance and on refusal. Definitions only.
use Rattle.std.specs.Prelude.{ℕ, true, List, leb, length, Float}
use Rattle.stage.specs.Refusal.{NONE, refusal_no, unless}
use Rattle.stage.specs.Length.{is_within}
use Rattle.stage.specs.Layout.{over}
use Rattle.fir.specs.Filter.{history_fits, Memory, count_of, filter_outs, filter_end}
use Rattle.fir.specs.Dot.{every_tap}
use Rattle.decimator.specs.Rules.{state_allowed}
use Rattle.decimator.specs.Answers.{answer, at}
use Rattle.decimator.specs.declared.Decimator.{Decimator}
use Rattle.decimator.specs.declared.Decimated.{Decimated}

-- of the decimator, and the lengths of taps, history, input and output: SETTING, LIMIT, LENGTH or ROOM
abbrev pub process_refusal : Decimator → ℕ → ℕ → ℕ → ℕ → ℕ
process_refusal d taps history n room =
    refusal_no (state_allowed d taps) true (is_within n) (history_fits taps history) (leb (count_of d.factor d.phase n) room)

-- a decimator's phase and history, as its filter remembers them
abbrev pub memory : Decimator → List Float → Memory Float
memory d history = record { phase = d.phase; history = history }

-- an accepted call: the answer, the history, and the output slice with the filter's outputs over what it held
abbrev pub accepted : Decimator → List Float → List Float → List Float → List Float → Decimated × List Float × List Float
accepted d taps history input output =
    let filter = every_tap d.factor taps in
    let end = filter_end filter (memory d history) input in (
      answer NONE (at d end.phase) (count_of d.factor d.phase (length input)),
      end.history,
      over (filter_outs filter (memory d history) input) output,
    )

-- refused, nothing has changed
abbrev pub processed : Decimator → List Float → List Float → List Float → List Float → Decimated × List Float × List Float
processed d taps history input output =
    let number = process_refusal d (length taps) (length history) (length input) (length output) in
    unless number (accepted d taps history input output) (answer number d 0, history, output)
