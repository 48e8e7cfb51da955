-- The rules of document 01, "Settings", on a lowpass filter's number of taps and its cutoff. Definitions only.
use Rattle.std.specs.Prelude.{ℕ, Bool, ◌&&◌, Float}
use Rattle.std.specs.Float.{binary32}
use Rattle.std.specs.Float.Ieee.{of_bits, le, lt}
use Rattle.stage.specs.Taps.{odd_up_to}

-- odd, 3 to 769
abbrev pub taps_allowed : ℕ → Bool
taps_allowed n = odd_up_to 769 n

-- 1/1024 and 0.5
abbrev pub least : Float
least = of_bits binary32 0x3a80_0000

abbrev pub half : Float
half = of_bits binary32 0x3f00_0000

-- at least 1/1024 and below 0.5; NaN breaks it
abbrev pub cutoff_allowed : Float → Bool
cutoff_allowed cutoff = le least cutoff && lt cutoff half
