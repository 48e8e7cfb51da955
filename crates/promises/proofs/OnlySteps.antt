-- No second answer meets the contract of a step of any feedback stage. Assumes nothing.
use mathlib.Core.Path.{◌≡◌, refl, sym, ap, ◌∙◌}
use Rattle.std.specs.Prelude.{Option, Some, None}
use Rattle.stage.specs.Run.{Answer, struck, kept, answer_of}
use Rattle.agc.proofs as agc
use Rattle.agc.specs.contracts as agc-says
use Rattle.dc_remover.proofs as dc_remover
use Rattle.dc_remover.specs.contracts as dc_remover-says
use Rattle.am.proofs as am
use Rattle.am.specs.contracts as am-says
use Rattle.fm.proofs as fm
use Rattle.fm.specs.contracts as fm-says
use Rattle.audio_agc.proofs as audio_agc
use Rattle.audio_agc.specs.contracts as audio_agc-says
use Rattle.promises.specs.Contract.{NoSecond}

option_of : {B S : Type 0} → Answer B S → Option (B × S)
option_of struck = None
option_of (kept o t) = Some (o, t)

by_answer : {B S : Type 0} (r : Option (B × S)) → option_of (answer_of r) ≡ r
unfolding option_of
by_answer None = refl
by_answer (Some p) = refl

-- two steps that mean the same are the same
same_step : {B S C : Type 0} (back : Option (B × S) → C) {r r' : Option (B × S)} {a : Answer B S} → answer_of r ≡ a → answer_of r' ≡ a → back r ≡ back r'
same_step back {r = r} {r' = r'} e e' = ap back (sym (by_answer r) ∙ ap option_of (e ∙ sym e') ∙ by_answer r')

pub agc_step : NoSecond agc-says.step.AgcFeedbackTuple2F32F32Tuple2F32F32.step.ended agc.step.AgcFeedbackTuple2F32F32Tuple2F32F32.step.Reads.Learnt
agc_step h x y = same_step (λ r. (r, (tt, (tt, tt))))

pub dc_remover_mono_step : NoSecond dc_remover-says.step.DcRemoverFeedbackF32F32.step.ended dc_remover.step.DcRemoverFeedbackF32F32.step.Reads.Learnt
dc_remover_mono_step h x y = same_step (λ r. (r, (tt, (tt, tt))))

pub dc_remover_pair_step : NoSecond dc_remover-says.step.DcRemoverFeedbackTuple2F32F32Tuple2F32F32.step.ended dc_remover.step.DcRemoverFeedbackTuple2F32F32Tuple2F32F32.step.Reads.Learnt
dc_remover_pair_step h x y = same_step (λ r. (r, (tt, (tt, tt))))

pub am_step : NoSecond am-says.step.AmDemodulatorFeedbackTuple2F32F32F32.step.ended am.step.AmDemodulatorFeedbackTuple2F32F32F32.step.Reads.Learnt
am_step h x y = same_step (λ r. (r, (tt, (tt, tt))))

pub fm_step : NoSecond fm-says.step.FmDemodulatorFeedbackF32F32.step.ended fm.step.FmDemodulatorFeedbackF32F32.step.Reads.Learnt
fm_step h x y = same_step (λ r. (r, (tt, (tt, tt))))

pub audio_agc_step : NoSecond audio_agc-says.step.AudioAgcFeedbackF32F32.step.ended audio_agc.step.AudioAgcFeedbackF32F32.step.Reads.Learnt
audio_agc_step h x y = same_step (λ r. (r, (tt, (tt, tt))))
