-- The AM demodulator's state: what is demanded of it, and a fresh one. Definitions only.
use Rattle.std.specs.Prelude.{ℕ, Bool, ◌&&◌}
use Rattle.std.specs.Float.{binary32}
use Rattle.std.specs.Float.Ieee.{of_bits}
use Rattle.stage.specs.Floats.{plus_zero, both_finite}
use Rattle.stage.specs.Settings.{in_unit}
use Rattle.stage.specs.Refusal.{NONE}
use Rattle.am.specs.declared.AmDemodulator.{AmDemodulator}
use Rattle.am.specs.declared.AmDone.{AmDone}

-- both weights from 0 to 1: otherwise SETTING
abbrev pub setting_met : AmDemodulator → Bool
setting_met s = in_unit s.dc_alpha && in_unit s.hp_alpha

-- the mean and the high-pass finite: otherwise STATE
abbrev pub state_met : AmDemodulator → Bool
state_met s = both_finite s.dc_mean s.hp_state

abbrev pub answered : ℕ → AmDemodulator → ℕ → ℕ → AmDone
answered number s count struck = record { refusal = number; state = s; count = count; struck = struck }

-- what `new` gives: the weights 0.005 and 0.05, and nothing heard yet
abbrev pub fresh : AmDone
fresh =
    answered NONE
    (record { dc_alpha = of_bits binary32 0x3ba3_d70a; dc_mean = plus_zero; hp_alpha = of_bits binary32 0x3d4c_cccd; hp_state = plus_zero })
    0 0
