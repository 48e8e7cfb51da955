-- Worked values of the audio gain control, by computation: each way of a step, and who is struck. Assumes nothing.
use Rattle.std.specs.Prelude.{ℕ, ◌≡◌, refl, List, [], ◌∷◌, Float}
use Rattle.std.specs.Float.{nan}
use Rattle.std.specs.Float.Ieee.{of_bits, add, sub, mul, div, neg, lt, le}
use Rattle.number.specs.Kinds.{absolute}
use Rattle.stage.specs.Floats.{plus_zero, one}
use Rattle.stage.specs.Named.{single, quarter, half, huge, greatest}
use Rattle.stage.specs.Call.{Given}
use Rattle.audio_agc.specs.declared.AudioAgc.{AudioAgc}
use Rattle.audio_agc.specs.Level.{clamp_of, envelope_after, dead_gain, slow_decay}
use Rattle.audio_agc.specs.Step.{keep_step, dead_step, loud_step, live_step, audio_step}
use Rattle.audio_agc.specs.Process.{process}

-- a floor of 1/128, and half of it
abbrev floor : Float
floor = single 0x3c00_0000

abbrev below_floor : Float
below_floor = single 0x3b80_0000

-- attack 0.5 and a hang time of 2
abbrev with : Float → Float → Float → Float → ℕ → Float → AudioAgc
with target decay min gain hang envelope =
    record {
      gain = gain;
      target = target;
      attack = half;
      decay = decay;
      min_magnitude = min;
      hang_time_samples = 2;
      hang_counter = hang;
      envelope = envelope;
    }

-- target 0.5, decay 0.25
abbrev usual : Float → ℕ → Float → AudioAgc
usual = with half quarter floor

abbrev gives : ℕ → AudioAgc → ℕ → List Float → Given AudioAgc (List Float)
gives number s n left = record { refusal = number; state = s; struck = n; left = left }

-- ---- the ways of a step

-- a loud sample: the gain falls by attack from 1 to about 0.75, and the hang begins
pub attack : process (usual one 0 plus_zero) (one ∷ []) ≡ gives 0 (usual (single 0x3f3f_fffc) 2 one) 0 (single 0x3f3f_fffc ∷ [])
unfolding audio_step dead_step live_step loud_step keep_step slow_decay dead_gain envelope_after clamp_of absolute add sub mul div neg lt le of_bits
attack = refl

-- the gain should rise, and a hang is under way: it stays, and the counter falls
pub hang : process (usual quarter 1 plus_zero) (one ∷ []) ≡ gives 0 (usual quarter 0 one) 0 (quarter ∷ [])
unfolding audio_step dead_step live_step loud_step keep_step slow_decay dead_gain envelope_after clamp_of absolute add sub mul div neg lt le of_bits
hang = refl

-- none is under way: it rises by decay to about 0.3125
pub decay : process (usual quarter 0 plus_zero) (one ∷ []) ≡ gives 0 (usual (single 0x3e9f_fffc) 0 one) 0 (single 0x3e9f_fffc ∷ [])
unfolding audio_step dead_step live_step loud_step keep_step slow_decay dead_gain envelope_after clamp_of absolute add sub mul div neg lt le of_bits
decay = refl

-- at the floor itself the decay is a tenth
pub slow_decay_is : process (usual quarter 0 plus_zero) (floor ∷ []) ≡ gives 0 (usual (single 0x3feb_f94a) 0 floor) 0 (single 0x3c6b_f94a ∷ [])
unfolding audio_step dead_step live_step loud_step keep_step slow_decay dead_gain envelope_after clamp_of absolute add sub mul div neg lt le of_bits
slow_decay_is = refl

-- below it is dead air: the gain goes from 2 toward 1, and the hang runs out
pub dead_air : process (usual (single 0x4000_0000) 2 plus_zero) (below_floor ∷ []) ≡ gives 0 (usual (single 0x3fff_fcb9) 1 below_floor) 0 (single 0x3bff_fcb9 ∷ [])
unfolding audio_step dead_step live_step loud_step keep_step slow_decay dead_gain envelope_after clamp_of absolute add sub mul div neg lt le of_bits
dead_air = refl

-- ---- who is struck: what is put out or stored counts, and nothing on the way to it

-- 3e38 times a gain of 2 overflows, is clamped to 1, and is not struck
pub clamped_overflow : process (usual (single 0x4080_0000) 0 plus_zero) (huge ∷ []) ≡ gives 0 (usual (single 0x4000_0000) 2 huge) 0 (one ∷ [])
unfolding audio_step dead_step live_step loud_step keep_step slow_decay dead_gain envelope_after clamp_of absolute add sub mul div neg lt le of_bits
clamped_overflow = refl

-- in dead air, under a floor as high, nothing clamps it: struck, and the hang counter stays as well
pub overflow_in_dead_air : process (with half quarter greatest (single 0x4080_0000) 1 plus_zero) (huge ∷ []) ≡ gives 0 (with half quarter greatest (single 0x4080_0000) 1 plus_zero) 1 (plus_zero ∷ [])
unfolding audio_step dead_step live_step loud_step keep_step slow_decay dead_gain envelope_after clamp_of absolute add sub mul div neg lt le of_bits
overflow_in_dead_air = refl

-- with a target of 3e38 the error is infinite: no matter while a hang counts down
pub infinite_error_in_a_hang : process (with huge quarter floor one 1 plus_zero) (quarter ∷ []) ≡ gives 0 (with huge quarter floor one 0 quarter) 0 (quarter ∷ [])
unfolding audio_step dead_step live_step loud_step keep_step slow_decay dead_gain envelope_after clamp_of absolute add sub mul div neg lt le of_bits
infinite_error_in_a_hang = refl

-- but struck where decay runs, also a decay of 0
pub infinite_error_in_decay : process (with huge quarter floor one 0 plus_zero) (quarter ∷ []) ≡ gives 0 (with huge quarter floor one 0 plus_zero) 1 (plus_zero ∷ [])
unfolding audio_step dead_step live_step loud_step keep_step slow_decay dead_gain envelope_after clamp_of absolute add sub mul div neg lt le of_bits
infinite_error_in_decay = refl

pub infinite_error_in_no_decay : process (with huge plus_zero floor one 0 plus_zero) (quarter ∷ []) ≡ gives 0 (with huge plus_zero floor one 0 plus_zero) 1 (plus_zero ∷ [])
unfolding audio_step dead_step live_step loud_step keep_step slow_decay dead_gain envelope_after clamp_of absolute add sub mul div neg lt le of_bits
infinite_error_in_no_decay = refl

-- a NaN in the middle: 0, and the hang of the two samples around it goes on
pub nan_in_the_middle : process (usual quarter 2 plus_zero) (one ∷ nan ∷ one ∷ []) ≡ gives 0 (usual quarter 0 one) 1 (quarter ∷ plus_zero ∷ quarter ∷ [])
unfolding audio_step dead_step live_step loud_step keep_step slow_decay dead_gain envelope_after clamp_of absolute add sub mul div neg lt le of_bits
nan_in_the_middle = refl
