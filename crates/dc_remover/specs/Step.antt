-- One step of the DC remover: the mean after a sample, the sample less that mean, and who is struck. Definitions only.
use Rattle.std.specs.Prelude.{◌&&◌, cond, Float}
use Rattle.std.specs.Float.{binary32}
use Rattle.std.specs.Float.Ieee.{sub}
use Rattle.stage.specs.Floats.{both_finite, blend_of}
use Rattle.stage.specs.Run.{Answer, struck, kept}
use Rattle.dc_remover.specs.declared.DcRemover.{DcRemover}

-- the mean after x: (1 - alpha) * avg + alpha * x
abbrev pub mean_after : Float → Float → Float → Float
mean_after alpha avg x = blend_of alpha avg x

-- x less that mean
abbrev pub less_mean : Float → Float → Float → Float
less_mean alpha avg x = sub binary32 x (mean_after alpha avg x)

-- what a sample that is kept puts out, and the state after it. A mono sample has the mean of I, and that of Q stays
abbrev pub mono_out : DcRemover → Float → Float
mono_out s x = less_mean s.alpha s.avg_i x

abbrev pub mono_after : DcRemover → Float → DcRemover
mono_after s x = record { avg_i = mean_after s.alpha s.avg_i x; avg_q = s.avg_q; alpha = s.alpha }

-- the same of a pair
abbrev pub pair_out : DcRemover → Float × Float → Float × Float
pair_out s p = (less_mean s.alpha s.avg_i p.0, less_mean s.alpha s.avg_q p.1)

abbrev pub pair_after : DcRemover → Float × Float → DcRemover
pair_after s p = record { avg_i = mean_after s.alpha s.avg_i p.0; avg_q = mean_after s.alpha s.avg_q p.1; alpha = s.alpha }

-- the step of a run: struck, unless each float that is put out or stored is finite
unfoldable pub mono_answer : DcRemover → Float → Answer Float DcRemover
mono_answer s x = cond (both_finite (mono_out s x) (mono_after s x).avg_i) (kept (mono_out s x) (mono_after s x)) struck

-- of a pair, one bad half strikes both
unfoldable pub pair_answer : DcRemover → Float × Float → Answer (Float × Float) DcRemover
pair_answer s p =
    cond (both_finite (pair_out s p).0 (pair_out s p).1 && both_finite (pair_after s p).avg_i (pair_after s p).avg_q)
    (kept (pair_out s p) (pair_after s p))
    struck
