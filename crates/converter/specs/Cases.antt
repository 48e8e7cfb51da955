-- Worked values of the conversions, by computation: the marked cases 1 and 2 of document 01, the middle, and who is refused. Assumes nothing.
use Rattle.std.specs.Prelude.{◌≡◌, refl, true, false, [], ◌∷◌, pos}
use Rattle.std.specs.Float.{fin, nan, binary32}
use Rattle.std.specs.Float.Ieee.{of_bits, sub, div, neg, of_int}
use Rattle.converter.specs.Convert.{sample_of, negated_of, samples, inverted, refusal_of, converted}

-- marked case 1: byte 0 gives -1.0
pub byte_0 : sample_of 0 ≡ fin true 1 (pos 0)
unfolding sample_of sub div of_int
byte_0 = refl

-- marked case 2: byte 255 gives 1.0
pub byte_255 : sample_of 255 ≡ fin false 1 (pos 0)
unfolding sample_of sub div of_int
byte_255 = refl

-- no byte gives 0: the two in the middle lie 1/255 below and above it, rounded
pub middle_bytes : (sample_of 127 ≡ of_bits binary32 0xbb80_8081) × (sample_of 128 ≡ of_bits binary32 0x3b80_8081)
unfolding sample_of sub div of_int of_bits
middle_bytes = (refl, refl)

-- inverted, byte 0 on Q gives +1.0
pub inverted_pair : inverted (0 ∷ 0 ∷ []) ≡ fin true 1 (pos 0) ∷ fin false 1 (pos 0) ∷ []
unfolding sample_of negated_of sub div neg of_int
inverted_pair = refl

-- the limit itself is taken; one pair more is LIMIT, also where the target does not match; odd is LENGTH, and so is another length
pub numbers : (refusal_of 262_144 262_144 ≡ 0) × (refusal_of 262_146 262_144 ≡ 3) × (refusal_of 262_145 262_145 ≡ 3) × (refusal_of 3 3 ≡ 4) × (refusal_of 2 4 ≡ 4) × (refusal_of 0 0 ≡ 0)
numbers = (refl, refl, refl, refl, refl, refl)

-- refused, the target stays
pub refused_stays : converted samples (1 ∷ []) (nan ∷ []) ≡ (4, nan ∷ [])
refused_stays = refl
