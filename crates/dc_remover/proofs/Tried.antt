-- A step of the DC remover whose outputs are finite keeps its sample: a mean that is not finite leaves no output finite. Assumes nothing.
use mathlib.Core.Path.{◌≡◌}
use mathlib.Core.Bool.{true}
use lib.Ieee.{Float, binary32}
use lib.Ieee.Scale.{finite}
use Rattle.stage.specs.Run.{kept}
use Rattle.stage.proofs.NotFinite.{sub_not_finite_right, was_finite}
use Rattle.dc_remover.specs.declared.DcRemover.{DcRemover}
use Rattle.dc_remover.specs.Step.{mean_after, less_mean, mono_out, mono_after, mono_answer, pair_out, pair_after, pair_answer}

mean_finite : (alpha avg x : Float) → finite (less_mean alpha avg x) ≡ true → finite (mean_after alpha avg x) ≡ true
mean_finite alpha avg x h = was_finite (mean_after alpha avg x) (less_mean alpha avg x) (sub_not_finite_right binary32 x (mean_after alpha avg x)) h

pub mono_kept : (s : DcRemover) (x : Float) → finite (mono_out s x) ≡ true → mono_answer s x ≡ kept (mono_out s x) (mono_after s x)
unfolding mono_answer
mono_kept s x h = rw (h, mean_finite s.alpha s.avg_i x h)

pub pair_kept : (s : DcRemover) (p : Float × Float) → finite (pair_out s p).0 ≡ true → finite (pair_out s p).1 ≡ true
    → pair_answer s p ≡ kept (pair_out s p) (pair_after s p)
unfolding pair_answer
pair_kept s p h k = rw (h, k, mean_finite s.alpha s.avg_i p.0 h, mean_finite s.alpha s.avg_q p.1 k)
