-- A float's magnitude and its sign bit. (`finite` is lib.Ieee.Scale's, and the whole part is lib.Ieee's `to_unsigned`, Rust's `as`.) Definitions only.
use Rattle.std.specs.Prelude.{Bool, false}
use lib.Ieee.{Float, nan, inf, fin}

-- |x|: the sign is taken off, that of a zero too
unfoldable pub absolute : Float → Float
absolute nan = nan
absolute (inf s) = inf false
absolute (fin s m e) = fin false m e

-- whether the sign bit is set; a NaN counts as having none
unfoldable pub negative : Float → Bool
negative nan = false
negative (inf s) = s
negative (fin s m e) = s
