-- A decimator set back or retuned: what `reset` and `update_cutoff` give, on acceptance and on refusal. Definitions only.
use Rattle.std.specs.Prelude.{ℕ, true, ◌&&◌, List, length, replicate, Float}
use Rattle.stage.specs.Refusal.{NONE, refusal_no, unless}
use Rattle.stage.specs.Floats.{plus_zero}
use Rattle.fir.specs.Filter.{history_fits}
use Rattle.lowpass.specs.Rules.{cutoff_allowed}
use Rattle.lowpass.specs.Lowpass.{lowpass}
use Rattle.decimator.specs.Rules.{state_allowed}
use Rattle.decimator.specs.Answers.{answer, fresh}
use Rattle.decimator.specs.declared.Decimator.{Decimator}
use Rattle.decimator.specs.declared.Decimated.{Decimated}

-- SETTING for the decimator, LENGTH for its history
abbrev pub reset_refusal : Decimator → ℕ → ℕ → ℕ
reset_refusal d taps history = refusal_no (state_allowed d taps) true true (history_fits taps history) true

-- `reset` clears history and phase: the answer, and the history
abbrev pub cleared : Decimator → List Float → List Float → Decimated × List Float
cleared d taps history =
    let number = reset_refusal d (length taps) (length history) in
    unless number (answer NONE (fresh d.factor) 0, replicate (length history) plus_zero) (answer number d 0, history)

-- SETTING also for the cutoff
abbrev pub update_refusal : Decimator → Float → ℕ → ℕ → ℕ
update_refusal d cutoff taps history = refusal_no (state_allowed d taps && cutoff_allowed cutoff) true true (history_fits taps history) true

-- `update_cutoff` keeps history and phase: the answer, and the taps
abbrev pub retuned : Decimator → Float → List Float → List Float → Decimated × List Float
retuned d cutoff taps history =
    let number = update_refusal d cutoff (length taps) (length history) in
    unless number (answer NONE d 0, lowpass (length taps) cutoff) (answer number d 0, taps)
