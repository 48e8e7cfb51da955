-- One step of the gain control: the pair times the gain after it, and who is struck. Definitions only.
use Rattle.std.specs.Prelude.{◌&&◌, cond, Float}
use Rattle.std.specs.Float.{binary32}
use Rattle.std.specs.Float.Ieee.{mul}
use Rattle.std.specs.Float.Ieee.Scale.{finite}
use Rattle.stage.specs.Floats.{both_finite}
use Rattle.stage.specs.Run.{Answer, struck, kept}
use Rattle.agc.specs.declared.Agc.{Agc}
use Rattle.agc.specs.Gain.{magnitude_of, gain_after}

-- with this gain: struck, unless each float that is put out or stored is finite
abbrev pub with_gain : Agc → Float × Float → Float → Answer (Float × Float) Agc
with_gain s p gain =
    cond (both_finite (mul binary32 p.0 gain) (mul binary32 p.1 gain) && finite gain)
    (kept (mul binary32 p.0 gain, mul binary32 p.1 gain) (record { gain = gain; target = s.target; attack = s.attack; decay = s.decay }))
    struck

-- the step of a run
unfoldable pub agc_answer : Agc → Float × Float → Answer (Float × Float) Agc
agc_answer s p = with_gain s p (gain_after s (magnitude_of p.0 p.1))
