-- What the step of the audio gain control is made of, in f32, each operation rounded. Definitions only.
use Rattle.std.specs.Prelude.{cond, Float}
use Rattle.std.specs.Float.{binary32}
use Rattle.std.specs.Float.Ieee.{of_bits, add, sub, mul, div, lt}
use Rattle.number.specs.Kinds.{absolute}
use Rattle.stage.specs.Floats.{plus_zero, one}

-- 1e-6, which keeps a divisor from 0
abbrev pub tiny : Float
tiny = of_bits binary32 0x3586_37bd

abbrev pub at_most : Float → Float → Float
at_most high x = cond (lt high x) high x

-- x within low and high. NaN passes
unfoldable pub clamp_of : Float → Float → Float → Float
clamp_of low high x = cond (lt x low) (at_most high low) (at_most high x)

-- the envelope rises to a magnitude above it at once, and falls slowly: 0.999 * envelope + 0.001 * mag
unfoldable pub envelope_after : Float → Float → Float
envelope_after envelope mag =
    cond (lt envelope mag) mag (add binary32 (mul binary32 (of_bits binary32 0x3f7f_be77) envelope) (mul binary32 (of_bits binary32 0x3a83_126f) mag))

-- in dead air the gain goes slowly back to 1, unless it is within 1e-6 of it: 0.9999 * gain + 0.0001 * 1.0
unfoldable pub dead_gain : Float → Float
dead_gain gain =
    cond (lt tiny (absolute (sub binary32 gain one)))
    (add binary32 (mul binary32 (of_bits binary32 0x3f7f_f972) gain) (mul binary32 (of_bits binary32 0x38d1_b717) one))
    gain

-- the decay, slowed near the floor: decay * (0.1 + 0.9 * snr), where snr is (envelope - floor) / floor within 0 and 1
unfoldable pub slow_decay : Float → Float → Float → Float
slow_decay decay floor envelope =
    mul binary32 decay
    (add binary32 (of_bits binary32 0x3dcc_cccd)
    (mul binary32 (of_bits binary32 0x3f66_6666) (clamp_of plus_zero one (div binary32 (sub binary32 envelope floor) floor))))
