-- `audio_agc::AudioAgc::live` meets its contract: what a signal moves is the definition's. Assumes nothing.
use mathlib.Core.Path.{sym, ◌∙◌}
use Rattle.audio_agc.specs.Step.{loud_step}
use Rattle.audio_agc.proofs.AudioAgc.live.Goals as goal

pub returns : goal.returns
unfolding loud_step
returns c = c.keep.ensures ∙ rw c.clamp.ensures (sym (c.follow-after.ensures.lives c.args.x))
