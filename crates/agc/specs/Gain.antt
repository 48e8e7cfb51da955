-- The gain after a pair, in f32, each operation rounded. Definitions only.
use Rattle.std.specs.Prelude.{cond, Float}
use Rattle.std.specs.Float.{binary32}
use Rattle.std.specs.Float.Ieee.{of_bits, add, mul, div, lt}
use Rattle.root.specs.Root.{rooted}
use Rattle.stage.specs.Floats.{blend_of}
use Rattle.agc.specs.declared.Agc.{Agc}

-- the root of i * i + q * q
abbrev pub magnitude_of : Float → Float → Float
magnitude_of i q = rooted binary32 (add binary32 (mul binary32 i i) (mul binary32 q q))

-- 1e-6, which keeps the divisor from 0
abbrev pub tiny : Float
tiny = of_bits binary32 0x3586_37bd

-- the gain that would bring a pair of this magnitude to the target
abbrev pub error_of : Agc → Float → Float
error_of s mag = div binary32 s.target (add binary32 mag tiny)

-- attack where the gain has to fall, decay otherwise
abbrev pub weight_of : Agc → Float → Float
weight_of s error = cond (lt error s.gain) s.attack s.decay

-- the gain moves toward that by its weight
unfoldable pub gain_after : Agc → Float → Float
gain_after s mag = blend_of (weight_of s (error_of s mag)) s.gain (error_of s mag)
