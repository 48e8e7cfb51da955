-- A kept step of the FM demodulator hands on a sound state: alpha is not touched, and only what is finite is stored. A fresh state is sound, and so is one
-- with de-emphasis. Assumes nothing.
use mathlib.Core.Path.{refl}
use mathlib.Core.Bool.{◌&&◌, and-eq-true_iff}
use lib.Ieee.{of_bits, binary32, div, le}
use lib.Ieee.Scale.{finite}
use Rattle.angle.specs.Single.{PI32}
use Rattle.stage.specs.Floats.{both_finite}
use Rattle.stage.specs.Stage.{Sound}
use Rattle.stage.proofs.Stays.{Keeps, kept_where}
use Rattle.fm.specs.State.{fresh}
use Rattle.fm.specs.Step.{angle_of, smoothed, fm_step}
use Rattle.fm.specs.Process.{fm_stage}

pub fm_keeps : Keeps fm_stage
unfolding fm_step
fm_keeps s p o t h e =
    let phase = angle_of p in
    let state = smoothed s phase in
    let out = div binary32 state PI32 in
    kept_where (Sound fm_stage) (both_finite phase state && finite out) out _
    (λ f. record { setting = h.setting; state = ((and-eq-true_iff (both_finite phase state) (finite out)).0 f).0 }) o t e

pub fresh_sound : Sound fm_stage fresh.state
unfolding of_bits le
fresh_sound = record { setting = refl; state = refl }
