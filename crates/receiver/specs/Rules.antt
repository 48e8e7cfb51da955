-- The rules on a receiver and on the lengths of what it is lent. Definitions only.
use Rattle.std.specs.Prelude.{ℕ, Bool, ◌&&◌, eqb, ltb}
use Rattle.fm.specs.State as fm-state
use Rattle.receiver.specs.declared.Receiver.{Receiver}

-- phase below ten, and the demodulator's alpha: otherwise SETTING
abbrev pub setting_met : Receiver → Bool
setting_met r = ltb r.phase 10 && fm-state.setting_met r.fm

-- the demodulator's floats finite: otherwise STATE
abbrev pub state_met : Receiver → Bool
state_met r = fm-state.state_met r.fm

-- 121 taps, and histories of 120: otherwise LENGTH
abbrev pub lengths_fit : ℕ → ℕ → ℕ → Bool
lengths_fit taps i q = eqb taps 121 && eqb i 120 && eqb q 120
