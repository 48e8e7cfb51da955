-- Sine, cosine and arctangent at f32: every f32 is an f64, and the answer is narrowed last. Definitions only.
use Rattle.std.specs.Prelude.{Float}
use Rattle.std.specs.Float.{binary32}
use Rattle.std.specs.Float.Ieee.{of_bits}
use Rattle.number.specs.Narrow.{narrowed}
use Rattle.angle.specs.Turn.{sined, cosined}
use Rattle.angle.specs.Arc.{arctan}

-- PI and 2 x PI in f32; twice PI is exact
abbrev pub PI32 : Float
PI32 = of_bits binary32 0x4049_0fdb

abbrev pub two_pi32 : Float
two_pi32 = of_bits binary32 0x40c9_0fdb

abbrev pub sine32 : Float → Float
sine32 x = narrowed (sined x)

abbrev pub cosine32 : Float → Float
cosine32 x = narrowed (cosined x)

abbrev pub arctan32 : Float → Float → Float
arctan32 y x = narrowed (arctan y x)
