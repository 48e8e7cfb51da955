-- The rules of document 01 on a Hilbert filter: its number of taps. Definitions only.
use Rattle.std.specs.Prelude.{ℕ, Bool}
use Rattle.stage.specs.Taps.{odd_up_to}

-- odd, 3 to 129
abbrev pub taps_allowed : ℕ → Bool
taps_allowed n = odd_up_to 129 n
