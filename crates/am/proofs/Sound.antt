-- A kept step of the AM demodulator hands on a sound state: the weights are not touched, and only what is finite is stored. A fresh state is sound. Assumes nothing.
use mathlib.Core.Path.{refl}
use mathlib.Core.Bool.{◌&&◌, and-eq-true_iff}
use lib.Ieee.{of_bits, binary32, sub, le}
use lib.Ieee.Scale.{finite}
use Rattle.stage.specs.Floats.{both_finite}
use Rattle.stage.specs.Stage.{Sound}
use Rattle.stage.proofs.Stays.{Keeps, kept_where}
use Rattle.am.specs.State.{fresh}
use Rattle.am.specs.Step.{size_of, mean_after, envelope, passed, am_step}
use Rattle.am.specs.Process.{am_stage}

pub am_keeps : Keeps am_stage
unfolding am_step
am_keeps s p o t h e =
    let size = size_of p in
    let mean = mean_after s size in
    let state = passed s size in
    let out = sub binary32 (envelope s size) state in
    kept_where (Sound am_stage) (both_finite mean state && finite out) out _
    (λ f. record { setting = h.setting; state = ((and-eq-true_iff (both_finite mean state) (finite out)).0 f).0 }) o t e

pub fresh_sound : Sound am_stage fresh.state
unfolding of_bits le
fresh_sound = record { setting = refl; state = refl }
