-- One pair of the FM demodulator, as document 01 and the Rust have it: f32, each operation rounded once. Definitions only.
use Rattle.std.specs.Prelude.{cond, ◌&&◌, Float}
use Rattle.std.specs.Float.{binary32}
use Rattle.std.specs.Float.Ieee.{add, sub, div, lt, neg}
use Rattle.std.specs.Float.Ieee.Scale.{finite}
use Rattle.angle.specs.Single.{PI32, two_pi32, arctan32}
use Rattle.stage.specs.Floats.{both_finite, blend_of}
use Rattle.stage.specs.Run.{Answer, struck, kept}
use Rattle.fm.specs.declared.FmDemodulator.{FmDemodulator}

-- the angle of a pair (I, Q): the arctangent of Q and I, which looks at the pair alone
unfoldable pub angle_of : Float × Float → Float
angle_of p = arctan32 p.1 p.0

-- 2 x PI off or on only where the difference is strictly beyond PI or -PI
unfoldable pub wrapped : Float → Float
wrapped d = cond (lt PI32 d) (sub binary32 d two_pi32) (cond (lt d (neg PI32)) (add binary32 d two_pi32) d)

-- the de-emphasis after the angle `phase`
unfoldable pub smoothed : FmDemodulator → Float → Float
smoothed s phase = blend_of s.deemph_alpha s.deemph_state (wrapped (sub binary32 phase s.last_phase))

-- struck where a float that would be stored or put out is not finite
abbrev pub keep_fm : FmDemodulator → Float → Float → Float → Answer Float FmDemodulator
keep_fm s out phase state =
    cond (both_finite phase state && finite out)
    (kept out (record { last_phase = phase; deemph_alpha = s.deemph_alpha; deemph_state = state }))
    struck

unfoldable pub fm_step : FmDemodulator → Float → Answer Float FmDemodulator
unfolding smoothed
fm_step s phase = keep_fm s (div binary32 (smoothed s phase) PI32) phase (smoothed s phase)

-- the step of a run, from a pair
abbrev pub fm_answer : FmDemodulator → Float × Float → Answer Float FmDemodulator
fm_answer s p = fm_step s (angle_of p)

-- the same step from the pair's angle
abbrev pub from_angle : FmDemodulator → Float → Answer Float FmDemodulator
from_angle s phase = fm_step s phase
