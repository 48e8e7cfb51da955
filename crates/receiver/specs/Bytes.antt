-- f32 little-endian. Definitions only.
use Rattle.std.specs.Prelude.{ℕ, ◌/◌, ◌%◌, List, [], ◌∷◌, Float}
use Rattle.std.specs.Float.{binary32}
use Rattle.std.specs.Float.Ieee.{to_bits}

-- the pattern b of a float, its lowest byte first
abbrev pub four_bytes : ℕ → List ℕ → List ℕ
four_bytes b rest = b % 256 ∷ b / 256 % 256 ∷ b / 65536 % 256 ∷ b / 16777216 % 256 ∷ rest

-- four bytes for each float
unfoldable pub little_endian : List Float → List ℕ
little_endian [] = []
little_endian (x ∷ xs) = four_bytes (to_bits binary32 x) (little_endian xs)
