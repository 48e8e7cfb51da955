-- The gain control's state: what is demanded of it, and a fresh one. Definitions only.
use Rattle.std.specs.Prelude.{ℕ, Bool, ◌&&◌, cond, Float}
use Rattle.std.specs.Float.Ieee.Scale.{finite}
use Rattle.stage.specs.Floats.{plus_zero, one}
use Rattle.stage.specs.Settings.{in_unit, is_positive}
use Rattle.stage.specs.Refusal.{NONE, SETTING}
use Rattle.agc.specs.declared.Agc.{Agc}
use Rattle.agc.specs.declared.AgcDone.{AgcDone}

-- target finite and above 0, attack and decay from 0 to 1: otherwise SETTING
abbrev pub setting_met : Agc → Bool
setting_met s = (is_positive s.target && in_unit s.attack) && in_unit s.decay

-- the gain finite: otherwise STATE. It may be negative or 0
abbrev pub state_met : Agc → Bool
state_met s = finite s.gain

abbrev pub answered : ℕ → Agc → ℕ → AgcDone
answered number s n = record { refusal = number; state = s; struck = n }

-- a gain of 1
abbrev pub fresh : Float → Float → Float → Agc
fresh target attack decay = record { gain = one; target = target; attack = attack; decay = decay }

abbrev pub zeros : Agc
zeros = record { gain = plus_zero; target = plus_zero; attack = plus_zero; decay = plus_zero }

-- what `new` gives
abbrev pub made : Float → Float → Float → AgcDone
made target attack decay = cond (setting_met (fresh target attack decay)) (answered NONE (fresh target attack decay) 0) (answered SETTING zeros 0)
