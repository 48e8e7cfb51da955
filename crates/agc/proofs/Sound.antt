-- A kept step of the gain control hands on a sound state: the settings are not touched, and only a finite gain is stored. A fresh state is sound. Assumes nothing.
use mathlib.Core.Path.{◌≡◌, refl}
use mathlib.Core.Bool.{◌&&◌, and-eq-true_iff}
use lib.Ieee.{Float, binary32, of_bits, mul}
use lib.Ieee.Scale.{finite}
use Rattle.stage.specs.Floats.{both_finite}
use Rattle.stage.specs.Refusal.{NONE, SETTING}
use Rattle.stage.specs.Stage.{Sound}
use Rattle.stage.proofs.Stays.{Keeps, kept_where, made_by_test}
use Rattle.agc.specs.declared.AgcDone.{AgcDone}
use Rattle.agc.specs.State.{setting_met, answered, fresh, zeros, made}
use Rattle.agc.specs.Gain.{magnitude_of, gain_after}
use Rattle.agc.specs.Step.{agc_answer}
use Rattle.agc.specs.Process.{agc_stage}

pub agc_keeps : Keeps agc_stage
unfolding agc_answer
agc_keeps s p o t h e =
    let gain = gain_after s (magnitude_of p.0 p.1) in
    let out : Float × Float = (mul binary32 p.0 gain, mul binary32 p.1 gain) in
    kept_where (Sound agc_stage) (both_finite out.0 out.1 && finite gain) out _
    (λ f. record { setting = h.setting; state = ((and-eq-true_iff (both_finite out.0 out.1) (finite gain)).0 f).1 }) o t e

-- a making call that is not refused gives a sound state
pub made_sound : (target attack decay : Float) → (made target attack decay).refusal ≡ NONE → Sound agc_stage (made target attack decay).state
unfolding of_bits
made_sound target attack decay e =
    let new = fresh target attack decay in
    made_by_test (λ (r : AgcDone). r.refusal) (λ (r : AgcDone). r.state) (Sound agc_stage) (setting_met new) (answered NONE new 0) (answered SETTING zeros 0) refl
    (λ h. record { setting = h; state = refl }) e
