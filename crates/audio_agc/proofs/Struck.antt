-- Demand 3 of the audio gain control, dropping: the call again without the samples that it struck changes no other output and not the state at its end,
-- and strikes none. What is not finite is always struck. Assumes nothing.
use mathlib.Core.Path.{◌≡◌, ◌∙◌}
use mathlib.Core.Bool.{false, and-false}
use mathlib.Core.List.{List, [], ◌∷◌}
use lib.Ieee.{Float}
use lib.Ieee.Scale.{finite}
use Rattle.stage.specs.Floats.{both_finite}
use Rattle.stage.specs.Refusal.{NONE}
use Rattle.stage.specs.Run.{struck}
use Rattle.stage.specs.Lent.{mono}
use Rattle.stage.specs.Stage.{Sound}
use Rattle.stage.specs.Kept.{kept_of, without_struck}
use Rattle.stage.specs.Burst.{NoneFinite, EachStruck}
use Rattle.stage.proofs.Lents.{mono_lawful}
use Rattle.stage.proofs.Dropped.{call_dropped}
use Rattle.audio_agc.specs.declared.AudioAgc.{AudioAgc}
use Rattle.audio_agc.specs.Step.{keep_step, audio_step}
use Rattle.audio_agc.specs.Process.{audio_stage, process}
use Rattle.audio_agc.proofs.Ways.{step_way}
use Rattle.audio_agc.proofs.Tried.{envelope_not_finite}
use Rattle.audio_agc.proofs.Sound.{envelope_finite, hang_within}

pub dropped : (s : AudioAgc) (xs : List Float) → (process s xs).refusal ≡ NONE → process s (kept_of audio_stage mono s xs) ≡ without_struck audio_stage mono s xs (process s xs)
dropped s xs e = call_dropped audio_stage mono mono_lawful s xs e

-- ---- a NaN or an infinity is struck, from whatever state is accepted: the clamp may hide it in the output, and the envelope does not

keep_struck : (out : Float) (after : AudioAgc) → finite after.envelope ≡ false → keep_step out after ≡ struck
unfolding keep_step
keep_struck out after h = rw (h, and-false (both_finite out after.gain))

pub not_finite_struck : (s : AudioAgc) (x : Float) → Sound audio_stage s → finite x ≡ false → audio_step s x ≡ struck
not_finite_struck s x h f =
    let w = step_way s x (hang_within s h) in
    let e = envelope_not_finite s.envelope x (envelope_finite s h) f in
    w.is ∙ keep_struck w.out _ e

-- so is each of a burst of them
pub none_finite_struck : (s : AudioAgc) (xs : List Float) → Sound audio_stage s → NoneFinite xs → EachStruck audio_step s xs
none_finite_struck s [] h n = tt
none_finite_struck s (x ∷ xs) h n = (not_finite_struck s x h n.0, none_finite_struck s xs h n.1)
