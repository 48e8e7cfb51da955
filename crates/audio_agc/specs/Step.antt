-- One step of the audio gain control: dead air, attack, hang or decay, and who is struck. Definitions only.
use Rattle.std.specs.Prelude.{ℕ, ◌-◌, ◌&&◌, cond, ltb, Float}
use Rattle.std.specs.Float.{binary32}
use Rattle.std.specs.Float.Ieee.{add, mul, div, neg, lt}
use Rattle.std.specs.Float.Ieee.Scale.{finite}
use Rattle.number.specs.Kinds.{absolute}
use Rattle.stage.specs.Floats.{one, both_finite, blend_of}
use Rattle.stage.specs.Run.{Answer, struck, kept}
use Rattle.audio_agc.specs.declared.AudioAgc.{AudioAgc}
use Rattle.audio_agc.specs.Level.{tiny, clamp_of, envelope_after, dead_gain, slow_decay}

-- the state with what a step moves
abbrev pub moved : AudioAgc → Float → Float → ℕ → AudioAgc
moved s gain envelope hang =
    record {
      gain = gain;
      target = s.target;
      attack = s.attack;
      decay = s.decay;
      min_magnitude = s.min_magnitude;
      hang_time_samples = s.hang_time_samples;
      hang_counter = hang;
      envelope = envelope;
    }

-- struck, unless each float that is put out or stored is finite
unfoldable pub keep_step : Float → AudioAgc → Answer Float AudioAgc
keep_step out after = cond (both_finite out after.gain && finite after.envelope) (kept out after) struck

-- dead air: the gain goes back to 1, a hang runs out, and the output is not clamped
unfoldable pub dead_step : AudioAgc → Float → Float → Answer Float AudioAgc
dead_step s envelope x = keep_step (mul binary32 x (dead_gain s.gain)) (moved s (dead_gain s.gain) envelope (s.hang_counter - 1))

-- x within -1 and 1
abbrev pub clamp_one : Float → Float
clamp_one x = clamp_of (neg one) one x

-- else the output is clamped to -1..1
unfoldable pub loud_step : Float → AudioAgc → Answer Float AudioAgc
loud_step x after = keep_step (clamp_of (neg one) one (mul binary32 x after.gain)) after

-- the gain that would bring the envelope to the target
abbrev pub error_of : AudioAgc → Float → Float
error_of s envelope = div binary32 s.target (add binary32 envelope tiny)

-- attack, where the gain has to fall, and the hang begins; then the hang; then decay
unfoldable pub live_step : AudioAgc → Float → Float → Answer Float AudioAgc
live_step s envelope x =
    cond (lt (error_of s envelope) s.gain)
    (loud_step x (moved s (blend_of s.attack s.gain (error_of s envelope)) envelope s.hang_time_samples))
    (cond (ltb 0 s.hang_counter)
    (loud_step x (moved s s.gain envelope (s.hang_counter - 1)))
    (loud_step x (moved s (blend_of (slow_decay s.decay s.min_magnitude envelope) s.gain (error_of s envelope)) envelope 0)))

-- dead air is an envelope below the floor
abbrev pub step_at : AudioAgc → Float → Float → Answer Float AudioAgc
step_at s x envelope = cond (lt envelope s.min_magnitude) (dead_step s envelope x) (live_step s envelope x)

unfoldable pub audio_step : AudioAgc → Float → Answer Float AudioAgc
audio_step s x = step_at s x (envelope_after s.envelope (absolute x))
