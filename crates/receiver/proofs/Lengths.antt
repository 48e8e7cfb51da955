-- Four bytes for each float, and at most 410 of them for a block. Assumes nothing.
use Prim.Native.Nat.{ℕ, ◌+◌, ◌*◌, ◌≤◌}
use native.Mathlib.Omega.{arith}
use mathlib.Core.Path.{◌≡◌, refl}
use mathlib.Core.List.{List, [], ◌∷◌}
use lib.ListN.{length}
use lib.Ieee.{Float}
use Rattle.fir.specs.Filter.{count_of}
use Rattle.receiver.specs.Bytes.{little_endian}

pub length_bytes : (xs : List Float) → length (little_endian xs) ≡ 4 * length xs
unfolding little_endian
length_bytes [] = refl
length_bytes (x ∷ xs) = omega (arith, length_bytes xs)

pub few : (phase n : ℕ) → n ≤ 4096 → count_of 10 phase n ≤ 410
unfolding count_of
few phase n h = omega arith

-- two halves that are as long
pub twice : {a b h : ℕ} → a ≡ h + h → b ≡ h → a ≡ b + b
twice a b = omega (arith, a, b)
