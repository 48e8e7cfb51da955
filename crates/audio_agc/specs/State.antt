-- The audio gain control's state: what is demanded of it. Definitions only.
use Rattle.std.specs.Prelude.{ℕ, Bool, ◌&&◌, leb, ltb, Float}
use Rattle.stage.specs.Floats.{both_finite}
use Rattle.stage.specs.Settings.{in_unit, is_positive}
use Rattle.audio_agc.specs.declared.AudioAgc.{AudioAgc}
use Rattle.audio_agc.specs.declared.AudioAgcDone.{AudioAgcDone}

-- target and floor finite and above 0, attack and decay from 0 to 1
abbrev pub levels_met : Float → Float → Float → Float → Bool
levels_met target attack decay floor = (is_positive target && is_positive floor) && (in_unit attack && in_unit decay)

-- the hang time is below this
abbrev pub LONGEST_HANG : ℕ
LONGEST_HANG = 16_777_216

-- otherwise SETTING
abbrev pub setting_met : AudioAgc → Bool
setting_met s = levels_met s.target s.attack s.decay s.min_magnitude && ltb s.hang_time_samples LONGEST_HANG

-- gain and envelope finite, and a hang counter within its hang time: otherwise STATE
abbrev pub state_met : AudioAgc → Bool
state_met s = both_finite s.gain s.envelope && leb s.hang_counter s.hang_time_samples

abbrev pub answered : ℕ → AudioAgc → ℕ → AudioAgcDone
answered number s n = record { refusal = number; state = s; struck = n }
