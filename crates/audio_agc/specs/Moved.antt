-- How a signal moves the state, told by what it makes of a step, one sample more of a trial, by that, and what a trial gives. Definitions only.
use Rattle.std.specs.Prelude.{◌≡◌, true, List, Float}
use Rattle.std.specs.Float.Ieee.{lt}
use Rattle.std.specs.Float.Ieee.Scale.{finite}
use Rattle.number.specs.Kinds.{absolute}
use Rattle.stage.specs.Lent.{mono}
use Rattle.stage.specs.Call.{gave, ran}
use Rattle.audio_agc.specs.declared.AudioAgc.{AudioAgc}
use Rattle.audio_agc.specs.Level.{envelope_after}
use Rattle.audio_agc.specs.Step.{moved, loud_step, live_step}
use Rattle.audio_agc.specs.Process.{audio_stage}

pub record Moves (s : AudioAgc) (envelope : Float) (after : AudioAgc) : Type 0 where
  -- whatever the sample is, a signal's step puts it out at this gain
  pub lives : (x : Float) → live_step s envelope x ≡ loud_step x after
  -- gain and hang counter aside, and the envelope, the state stays
  pub stays : after ≡ moved s after.gain envelope after.hang_counter
  -- a gain that was not finite is not finite after it
  pub was : finite after.gain ≡ true → finite s.gain ≡ true

-- one sample more of a trial: the state after it, where the envelope lay above the floor
pub record Turned (s : AudioAgc) (x : Float) (after : AudioAgc) : Type 0 where
  pub moves : Moves s (envelope_after s.envelope (absolute x)) after
  pub live : lt s.min_magnitude (envelope_after s.envelope (absolute x)) ≡ true

-- the run over xs strikes no sample, and gives ys and this state
abbrev pub Kept : AudioAgc → List Float → AudioAgc → List Float → Type 0
Kept s xs after ys = gave after 0 ys ≡ ran audio_stage mono s xs
