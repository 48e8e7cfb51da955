-- The arctangent in three parts: the ratio of the magnitudes, `flat` of it, and from there to the point's angle. Definitions only.
use Rattle.std.specs.Prelude.{cond, ◌||◌, Float}
use Rattle.std.specs.Float.{nan, binary64}
use Rattle.std.specs.Float.Ieee.{sub, lt, is_nan}
use Rattle.number.specs.Kinds.{absolute}
use Rattle.angle.specs.Numbers.{half}
use Rattle.angle.specs.Arc.{quotient, smaller, greater, turned}

-- the smaller magnitude divided by the greater
abbrev pub ratio : Float → Float → Float
ratio y x = quotient (smaller (absolute y) (absolute x)) (greater (absolute y) (absolute x))

-- if |y| > |x|, PI / 2 - a, then by the sign bits; NaN if either is
abbrev pub pointed : Float → Float → Float → Float
pointed y x a = cond (is_nan y || is_nan x) nan (turned y x (cond (lt (absolute x) (absolute y)) (sub binary64 half a) a))
