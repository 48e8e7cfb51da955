-- A kept step of the DC remover hands on a sound state: alpha is not touched, and only what is finite is stored. A fresh state is sound. Assumes nothing.
use mathlib.Core.Path.{◌≡◌, refl}
use mathlib.Core.Bool.{true, ◌&&◌, and-eq-true_iff}
use lib.Ieee.{Float, of_bits}
use lib.Ieee.Scale.{finite}
use Rattle.stage.specs.Floats.{both_finite}
use Rattle.stage.specs.Settings.{in_unit}
use Rattle.stage.specs.Refusal.{NONE, SETTING}
use Rattle.stage.specs.Stage.{Sound}
use Rattle.stage.proofs.Stays.{Keeps, kept_where, made_by_test}
use Rattle.dc_remover.specs.declared.DcRemover.{DcRemover}
use Rattle.dc_remover.specs.declared.DcRemoverDone.{DcRemoverDone}
use Rattle.dc_remover.specs.Step.{mono_out, mono_after, mono_answer, pair_out, pair_after, pair_answer}
use Rattle.dc_remover.specs.State.{answered, fresh, zeros, made}
use Rattle.dc_remover.specs.Process.{mono_stage, pair_stage}

-- a mono sample brings a new mean of I
mono_sound : (s : DcRemover) (x : Float) → Sound mono_stage s → both_finite (mono_out s x) (mono_after s x).avg_i ≡ true → Sound mono_stage (mono_after s x)
mono_sound s x h f =
    let mean = (mono_after s x).avg_i in
    let i = ((and-eq-true_iff (finite (mono_out s x)) (finite mean)).0 f).1 in
    let q = ((and-eq-true_iff (finite s.avg_i) (finite s.avg_q)).0 h.state).1 in
    record { setting = h.setting; state = (and-eq-true_iff (finite mean) (finite s.avg_q)).1 (i, q) }

pub mono_keeps : Keeps mono_stage
unfolding mono_answer
mono_keeps s x o t h e = kept_where (Sound mono_stage) (both_finite (mono_out s x) (mono_after s x).avg_i) (mono_out s x) (mono_after s x) (mono_sound s x h) o t e

pub pair_keeps : Keeps pair_stage
unfolding pair_answer
pair_keeps s p o t h e =
    let out = pair_out s p in
    let after = pair_after s p in
    kept_where (Sound pair_stage) (both_finite out.0 out.1 && both_finite after.avg_i after.avg_q) out after
    (λ f. record { setting = h.setting; state = ((and-eq-true_iff (both_finite out.0 out.1) (both_finite after.avg_i after.avg_q)).0 f).1 }) o t e

-- what one kind of call hands on the others take: they make the same demands of the state
pub sound_for_pairs : (s : DcRemover) → Sound mono_stage s → Sound pair_stage s
sound_for_pairs s h = record { setting = h.setting; state = h.state }

pub sound_for_mono : (s : DcRemover) → Sound pair_stage s → Sound mono_stage s
sound_for_mono s h = record { setting = h.setting; state = h.state }

-- a making call that is not refused gives a sound state
pub made_sound : (alpha : Float) → (made alpha).refusal ≡ NONE → Sound pair_stage (made alpha).state
unfolding of_bits
made_sound alpha e =
    made_by_test (λ (r : DcRemoverDone). r.refusal) (λ (r : DcRemoverDone). r.state) (Sound pair_stage) (in_unit alpha) (answered NONE (fresh alpha) 0) (answered SETTING zeros 0) refl
    (λ h. record { setting = h; state = refl }) e
