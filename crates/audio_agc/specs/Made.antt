-- A fresh audio gain control, and the rule on its hang time. Definitions only.
use Rattle.std.specs.Prelude.{Bool, ◌&&◌, cond, Float}
use Rattle.std.specs.Float.{binary32}
use Rattle.std.specs.Float.Ieee.{of_bits, mul, div, lt, to_unsigned}
use Rattle.stage.specs.Floats.{plus_zero, one}
use Rattle.stage.specs.Settings.{is_positive, not_negative}
use Rattle.stage.specs.Refusal.{NONE, SETTING}
use Rattle.audio_agc.specs.declared.AudioAgc.{AudioAgc}
use Rattle.audio_agc.specs.declared.AudioAgcDone.{AudioAgcDone}
use Rattle.audio_agc.specs.State.{levels_met, answered}

-- (time x rate) / 1000 in f32
abbrev pub hang_of : Float → Float → Float
hang_of time rate = div binary32 (mul binary32 time rate) (of_bits binary32 0x447a_0000)

-- time finite and not below 0, rate finite and above 0, and the hang time below 16,777,216, as no infinity is
abbrev pub hang_met : Float → Float → Bool
hang_met time rate = (not_negative time && is_positive rate) && lt (hang_of time rate) (of_bits binary32 0x4b80_0000)

-- a gain of 1, an envelope of 0 and no hang under way; the hang time is cut to a whole number
abbrev pub fresh : Float → Float → Float → Float → Float → AudioAgc
fresh target attack decay hang floor =
    record {
      gain = one;
      target = target;
      attack = attack;
      decay = decay;
      min_magnitude = floor;
      hang_time_samples = to_unsigned 64 hang;
      hang_counter = 0;
      envelope = plus_zero;
    }

abbrev pub zeros : AudioAgc
zeros =
    record {
      gain = plus_zero;
      target = plus_zero;
      attack = plus_zero;
      decay = plus_zero;
      min_magnitude = plus_zero;
      hang_time_samples = 0;
      hang_counter = 0;
      envelope = plus_zero;
    }

-- what `new` gives
abbrev pub made : Float → Float → Float → Float → Float → Float → AudioAgcDone
made target attack decay time rate floor =
    cond (levels_met target attack decay floor && hang_met time rate)
    (answered NONE (fresh target attack decay (hang_of time rate) floor) 0)
    (answered SETTING zeros 0)
