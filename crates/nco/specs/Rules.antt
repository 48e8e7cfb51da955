-- The rules of document 01 on an oscillator, and the number for each of its calls. Definitions only.
use Rattle.std.specs.Prelude.{ℕ, Bool, true, ◌&&◌, Float}
use Rattle.std.specs.Float.Ieee.{le, neg}
use Rattle.std.specs.Float.Ieee.Scale.{finite}
use Rattle.angle.specs.Numbers.{PI}
use Rattle.stage.specs.Refusal.{refusal_no}
use Rattle.stage.specs.Length.{is_within, is_even}
use Rattle.stage.specs.Settings.{is_positive}
use Rattle.nco.specs.declared.Nco.{Nco}
use Rattle.nco.specs.Mix.{increment_of}

-- increment as computed from -PI to PI; NaN breaks it
abbrev pub increment_allowed : Float → Bool
increment_allowed inc = le (neg PI) inc && le inc PI

-- frequency finite, rate finite and above 0
abbrev pub tuning_allowed : Float → Float → Bool
tuning_allowed freq rate = finite freq && is_positive rate && increment_allowed (increment_of freq rate)

-- the stored floats: phase and rotator, which settings are not
abbrev pub at_rest : Nco → Bool
at_rest s = finite s.phase && finite s.rotator_i && finite s.rotator_q

unfoldable pub tuning_refusal : Float → Float → ℕ
tuning_refusal freq rate = refusal_no (tuning_allowed freq rate) true true true true

-- the increment that is about to be overwritten is checked all the same
unfoldable pub retuning_refusal : Nco → Float → Float → ℕ
retuning_refusal s freq rate = refusal_no (increment_allowed s.phase_inc && tuning_allowed freq rate) (at_rest s) true true true

unfoldable pub mixing_refusal : Nco → ℕ → ℕ
mixing_refusal s n = refusal_no (increment_allowed s.phase_inc) (at_rest s) (is_within n) (is_even n) true

unfoldable pub resting_refusal : Nco → ℕ
resting_refusal s = refusal_no (increment_allowed s.phase_inc) (at_rest s) true true true
