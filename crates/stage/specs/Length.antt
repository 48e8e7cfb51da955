-- The demands on the length of a slice that many calls make: LIMIT, and that pairs are whole. Definitions only.
use Rattle.std.specs.Prelude.{ℕ, ◌%◌, Bool, leb, eqb}

-- the most elements that an input or an in-place slice may have
abbrev pub LONGEST : ℕ
LONGEST = 262_144

-- n elements are within the limit
abbrev pub is_within : ℕ → Bool
is_within n = leb n LONGEST

-- n elements of an interleaved slice are whole pairs
abbrev pub is_even : ℕ → Bool
is_even n = eqb (n % 2) 0
