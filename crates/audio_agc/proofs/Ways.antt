-- Whichever way a step of the audio gain control goes, it ends in the one test that strikes, with the new envelope and a counter within the hang time. Assumes nothing.
use Prim.Native.Nat.{ℕ, ◌-◌, ◌≤◌}
use native.Mathlib.Omega.{arith}
use mathlib.Core.Path.{◌≡◌, refl}
use mathlib.Core.Bool.{Bool, true, false, cond}
use lib.Dec.{ltb}
use lib.Ieee.{Float, binary32, mul, neg, lt}
use Rattle.number.specs.Kinds.{absolute}
use Rattle.stage.specs.Floats.{one, blend_of}
use Rattle.stage.specs.Run.{Answer}
use Rattle.audio_agc.specs.declared.AudioAgc.{AudioAgc}
use Rattle.audio_agc.specs.Level.{clamp_of, envelope_after, dead_gain, slow_decay}
use Rattle.audio_agc.specs.Step.{moved, keep_step, dead_step, loud_step, error_of, live_step, audio_step}

pub record Way (s : AudioAgc) (envelope : Float) (a : Answer Float AudioAgc) : Type 0 where
  pub out : Float
  pub gain : Float
  pub hang : ℕ
  pub within : hang ≤ s.hang_time_samples
  pub is : a ≡ keep_step out (moved s gain envelope hang)

module _ (s : AudioAgc) (envelope x : Float) (h : s.hang_counter ≤ s.hang_time_samples) where
  dead_way : Way s envelope (dead_step s envelope x)
  unfolding dead_step
  dead_way = record { out = mul binary32 x (dead_gain s.gain); gain = dead_gain s.gain; hang = s.hang_counter - 1; within = omega arith; is = refl }

  loud_way : (gain : Float) (hang : ℕ) → hang ≤ s.hang_time_samples → Way s envelope (loud_step x (moved s gain envelope hang))
  unfolding loud_step
  loud_way gain hang w = record { out = clamp_of (neg one) one (mul binary32 x gain); gain = gain; hang = hang; within = w; is = refl }

  -- attack sets the counter to the hang time, a hang counts it down, decay has it at 0
  live_way : Way s envelope (live_step s envelope x)
  unfolding live_step
  live_way = go (lt (error_of s envelope) s.gain) (ltb 0 s.hang_counter)
    where
      attack : Float
      attack = blend_of s.attack s.gain (error_of s envelope)

      decay : Float
      decay = blend_of (slow_decay s.decay s.min_magnitude envelope) s.gain (error_of s envelope)

      go : (falls hangs : Bool)
          → Way s envelope
          (cond falls (loud_step x (moved s attack envelope s.hang_time_samples))
          (cond hangs (loud_step x (moved s s.gain envelope (s.hang_counter - 1))) (loud_step x (moved s decay envelope 0))))
      go true hangs = loud_way attack s.hang_time_samples (omega arith)
      go false true = loud_way s.gain (s.hang_counter - 1) (omega arith)
      go false false = loud_way decay 0 (omega arith)

pub step_way : (s : AudioAgc) (x : Float) → s.hang_counter ≤ s.hang_time_samples → Way s (envelope_after s.envelope (absolute x)) (audio_step s x)
unfolding audio_step
step_way s x h = go (lt envelope s.min_magnitude)
  where
    envelope : Float
    envelope = envelope_after s.envelope (absolute x)

    go : (b : Bool) → Way s envelope (cond b (dead_step s envelope x) (live_step s envelope x))
    go true = dead_way s envelope x h
    go false = live_way s envelope x h
