-- The rules of document 01, "Settings", that several stages share, at either width. NaN breaks each. Definitions only.
use Rattle.std.specs.Prelude.{Bool, ◌&&◌, Float}
use Rattle.std.specs.Float.Ieee.{le, lt}
use Rattle.std.specs.Float.Ieee.Scale.{finite}
use Rattle.stage.specs.Floats.{plus_zero, one}

-- from 0 to 1, both ends allowed
abbrev pub in_unit : Float → Bool
in_unit x = le plus_zero x && le x one

-- finite and above 0
abbrev pub is_positive : Float → Bool
is_positive x = finite x && lt plus_zero x

-- finite and not below 0
abbrev pub not_negative : Float → Bool
not_negative x = finite x && le plus_zero x
