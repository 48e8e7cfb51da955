-- I and Q of interleaved pairs, taken apart and put together again. Definitions only.
use Rattle.std.specs.Prelude.{ℕ, ◌/◌, Bool, ◌&&◌, cond, List, eqb, length, Float}
use Rattle.stage.specs.Length.{is_even}
use Rattle.stage.specs.Layout.{pairs, flat, zip, firsts, seconds}

-- n floats are whole pairs, and there are as many I as Q
abbrev pub fit : ℕ → ℕ → ℕ → Bool
fit n i q = is_even n && eqb (n / 2) i && eqb (n / 2) q

-- I and Q of the input over what both slices held; slices that do not fit stay
abbrev pub apart : List Float → List Float → List Float → List Float × List Float
apart input i q = cond (fit (length input) (length i) (length q)) (firsts (pairs input), seconds (pairs input)) (i, q)

-- the pairs of I and Q over what the slice held; one that does not fit stays
abbrev pub together : List Float → List Float → List Float → List Float
together i q output = cond (fit (length output) (length i) (length q)) (flat (zip i q)) output
