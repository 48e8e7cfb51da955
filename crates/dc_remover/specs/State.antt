-- The DC remover's state: what is demanded of it, and a fresh one. Definitions only.
use Rattle.std.specs.Prelude.{ℕ, Bool, cond, Float}
use Rattle.stage.specs.Floats.{plus_zero, both_finite}
use Rattle.stage.specs.Settings.{in_unit}
use Rattle.stage.specs.Refusal.{NONE, SETTING}
use Rattle.dc_remover.specs.declared.DcRemover.{DcRemover}
use Rattle.dc_remover.specs.declared.DcRemoverDone.{DcRemoverDone}

-- alpha from 0 to 1: otherwise SETTING
abbrev pub setting_met : DcRemover → Bool
setting_met s = in_unit s.alpha

-- both means finite: otherwise STATE
abbrev pub state_met : DcRemover → Bool
state_met s = both_finite s.avg_i s.avg_q

abbrev pub answered : ℕ → DcRemover → ℕ → DcRemoverDone
answered number s n = record { refusal = number; state = s; struck = n }

-- means of 0
abbrev pub fresh : Float → DcRemover
fresh alpha = record { avg_i = plus_zero; avg_q = plus_zero; alpha = alpha }

abbrev pub zeros : DcRemover
zeros = record { avg_i = plus_zero; avg_q = plus_zero; alpha = plus_zero }

-- what `new` gives
abbrev pub made : Float → DcRemoverDone
made alpha = cond (in_unit alpha) (answered NONE (fresh alpha) 0) (answered SETTING zeros 0)
