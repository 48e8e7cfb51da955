-- Worked values of the receiver, by computation: the bytes of a float, and who is refused. Assumes nothing.
use Rattle.std.specs.Prelude.{◌≡◌, refl, [], ◌∷◌}
use Rattle.std.specs.Float.Ieee.{of_bits, to_bits, le}
use Rattle.stage.specs.Floats.{one}
use Rattle.fir.specs.Filter.{count_of}
use Rattle.receiver.specs.Bytes.{little_endian}
use Rattle.receiver.specs.Answers.{fresh}
use Rattle.receiver.specs.Making.{new_refusal}
use Rattle.receiver.specs.Receive.{heard_of, receive_refusal}

-- 1.0 has the bits 3F800000
pub one_in_bytes : little_endian (one ∷ []) ≡ 0 ∷ 0 ∷ 128 ∷ 63 ∷ []
unfolding little_endian to_bits of_bits
one_in_bytes = refl

-- ten pairs give a sample, and the first pair gives one at once
pub samples_heard : (heard_of 0 2 ≡ 1) × (heard_of 0 20 ≡ 1) × (heard_of 0 22 ≡ 2) × (heard_of 9 18 ≡ 0) × (heard_of 0 8192 ≡ 410)
unfolding count_of
samples_heard = (refl, refl, refl, refl, refl)

-- a whole block is taken; one more pair is LIMIT, an odd block LENGTH, 120 taps LENGTH, room one byte short ROOM
pub numbers :
    (receive_refusal fresh 121 120 120 8192 1640 ≡ 0)
    × (receive_refusal fresh 121 120 120 8194 1640 ≡ 3)
    × (receive_refusal fresh 121 120 120 3 1640 ≡ 4)
    × (receive_refusal fresh 120 120 120 2 1640 ≡ 4)
    × (receive_refusal fresh 121 120 120 8192 1639 ≡ 5)
    × (new_refusal 121 119 120 ≡ 4)
unfolding count_of of_bits le
numbers = (refl, refl, refl, refl, refl, refl)
