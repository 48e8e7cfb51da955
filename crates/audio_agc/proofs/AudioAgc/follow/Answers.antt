-- `audio_agc::AudioAgc::follow` meets its contract: on each of the three ways the tests decide the definition's. Assumes nothing.
use mathlib.Core.Path.{refl}
use borrow.Author.Tests.{lt-ltb, le-ltb}
use Rattle.audio_agc.specs.Step.{live_step}
use Rattle.audio_agc.proofs.Tried.{blend_was}
use Rattle.audio_agc.proofs.AudioAgc.follow.Goals as goal

pub returns-then-error-self : goal.returns-then-error-self
unfolding live_step
returns-then-error-self c = rw c.blend.ensures (record { lives = λ x. rw c.if-error-self.true; stays = refl; was = blend_was _ _ _ })

pub returns-then-self-gt0 : goal.returns-then-self-gt0
unfolding live_step
returns-then-self-gt0 c = record { lives = λ x. rw (c.if-error-self.false, lt-ltb _ _ c.if-self-gt0.true); stays = refl; was = λ h. h }

pub returns : goal.returns
unfolding live_step
returns c = rw (c.blend-2.ensures, c.slow_decay-part.ensures) (record { lives = λ x. rw (c.if-error-self.false, le-ltb _ _ c.if-self-gt0.false); stays = refl; was = blend_was _ _ _ })
