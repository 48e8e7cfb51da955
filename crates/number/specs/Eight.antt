-- Eight numbers narrowed at once, where all of them are near to 1. Definitions only.
use Rattle.std.specs.Prelude.{◌/◌, ◌%◌, Bool, cond, ◌&&◌, nat_le, nat_lt, to_bits, Float, List, map, Option, Some, None}
use Rattle.std.specs.List.{list_all}
use Rattle.std.specs.Float.{Format, binary64}
use Rattle.std.specs.Float.Ieee.{add}
use Rattle.number.specs.Narrow.{narrowed}

-- from 2^-64 to 2^64 in size, by the exponent's field
abbrev pub is_near : Float → Bool
is_near x = let g = to_bits binary64 x % 0x8000_0000_0000_0000 / 0x10_0000_0000_0000 in nat_le 959 g && nat_lt g 1087

-- a sum is a number only if all that it sums are
abbrev pub sum_of : Format → Float → Float → Float → Float → Float → Float → Float → Float → Float
sum_of f x0 x1 x2 x3 x4 x5 x6 x7 = add f (add f (add f x0 x2) (add f x4 x6)) (add f (add f x1 x3) (add f x5 x7))

-- what stands for eight of which some are not near
abbrev pub no_eight : Option (List Float)
no_eight = None

-- each narrowed, in order, where all are near
unfoldable pub eight_of : List Float → Option (List Float)
eight_of xs = cond (list_all is_near xs) (Some (map narrowed xs)) no_eight
