-- The rule on a filter's number of taps, of which each filter has its own most. Definitions only.
use Rattle.std.specs.Prelude.{ℕ, ◌%◌, Bool, ◌&&◌, eqb, leb}

-- odd, 3 to `most`
abbrev pub odd_up_to : ℕ → ℕ → Bool
odd_up_to most n = eqb (n % 2) 1 && leb 3 n && leb n most
