-- The FM demodulator's state: what is demanded of it, a fresh one, and one with de-emphasis. Definitions only.
use Rattle.std.specs.Prelude.{ℕ, Bool, true, ◌&&◌, Float}
use Rattle.std.specs.Float.{binary32}
use Rattle.std.specs.Float.Ieee.{add, div}
use Rattle.stage.specs.Floats.{plus_zero, one, both_finite}
use Rattle.stage.specs.Settings.{in_unit, is_positive, not_negative}
use Rattle.stage.specs.Refusal.{NONE, refusal_no, unless}
use Rattle.fm.specs.declared.FmDemodulator.{FmDemodulator}
use Rattle.fm.specs.declared.FmDone.{FmDone}

-- alpha from 0 to 1: otherwise SETTING
abbrev pub setting_met : FmDemodulator → Bool
setting_met s = in_unit s.deemph_alpha

-- the angle and the de-emphasis finite: otherwise STATE
abbrev pub state_met : FmDemodulator → Bool
state_met s = both_finite s.last_phase s.deemph_state

abbrev pub answered : ℕ → FmDemodulator → ℕ → ℕ → FmDone
answered number s count struck = record { refusal = number; state = s; count = count; struck = struck }

-- what `new` gives: angle 0, no de-emphasis
abbrev pub fresh : FmDone
fresh = answered NONE (record { last_phase = plus_zero; deemph_alpha = one; deemph_state = plus_zero }) 0 0

-- alpha is dt / (dt + tau) with dt = 1 / rate
unfoldable pub alpha_of : Float → Float → Float
alpha_of rate tau = div binary32 (div binary32 one rate) (add binary32 (div binary32 one rate) tau)

abbrev pub with_alpha : FmDemodulator → Float → FmDemodulator
with_alpha s alpha = record { last_phase = s.last_phase; deemph_alpha = alpha; deemph_state = s.deemph_state }

-- rate finite and above 0, tau finite and not below 0, alpha as computed from 0 to 1; the alpha about to be overwritten is checked all the same
unfoldable pub deemphasis_no : FmDemodulator → Float → Float → ℕ
deemphasis_no s rate tau = refusal_no (setting_met s && (is_positive rate && not_negative tau) && in_unit (alpha_of rate tau)) (state_met s) true true true

-- what `with_deemphasis` gives: another alpha and nothing else; refused, the state handed in
unfoldable pub deemphasised : FmDemodulator → Float → Float → FmDone
deemphasised s rate tau = let number = deemphasis_no s rate tau in answered number (unless number (with_alpha s (alpha_of rate tau)) s) 0 0
