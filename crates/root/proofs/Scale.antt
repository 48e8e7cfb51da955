-- How m is scaled before its root is taken, and the pattern that comes of it. Assumes nothing.
use mathlib.Core.Path.{◌≡◌, sym, ap, ◌∙◌}
use mathlib.Core.Logic.{inr}
use Prim.Native.Nat.{ℕ, suc, ◌+◌, ◌-◌, ◌*◌, ◌/◌, ◌%◌, ◌^◌, ◌≤◌, ◌<◌, suc-le-suc}
use native.Mathlib.Nat.{le_trans, le_of_eq, le_of_lt, lt_of_le_of_lt, lt_of_lt_of_le, mul_assoc, zero-add, mul-le-mul_right, le-suc}
use native.Mathlib.Numerals.{add-one}
use native.Mathlib.Omega.{arith}
use mathlib.Core.Bool.{false}
use lib.Dec.{lit≤}
use lib.Pow.{pow-add, pow_mono, shl_lt}
use lib.Count.{count_leading_zeros, leading_top}
use lib.Ieee.{binary32, of_bits}
use Rattle.root.specs.Root.{nearest_root}
use Rattle.root.proofs.Squares.{sq_lt_back}
use Rattle.root.proofs.Rounds.{rounds_down, rounds_up}
use Rattle.root.specs.Inside.{IsRoot, Scaled}
use Rattle.number.proofs.Pack.{packed, pow_lt_back}

-- ---- the shift
-- the highest digit of m is that of 2 ^ i, and z counts the zeros above it
abbrev Top : (m z i : ℕ) → Type 0
Top m z i = (z + suc i ≡ 64) × (2 ^ i ≤ m) × (m < 2 ^ suc i) × (i < 24)

top_of : (m : ℕ) → 0 < m → m < 2 ^ 24 → (i : ℕ) × Top m (count_leading_zeros 64 m) i
top_of m p h =
    let t = leading_top 64 m p (lt_of_lt_of_le h (lit≤ tt)) in
    (t.0, (t.1, t.2, t.3, pow_lt_back t.0 24 (lt_of_le_of_lt t.2 h)))

-- the zeros are 40 at least
zeros : (z i : ℕ) → z + suc i ≡ 64 → i < 24 → 40 ≤ z
zeros z i a b = omega arith

pub zeros_ge : (m : ℕ) → 0 < m → m < 2 ^ 24 → 40 ≤ count_leading_zeros 64 m
zeros_ge m p h = let t = top_of m p h in zeros (count_leading_zeros 64 m) t.0 t.1.0 t.1.3

abbrev pub shift : ℕ → ℕ → ℕ
shift z e = z - 17 + (e + 149 - (z - 17)) % 2

lo_exp : (z i x : ℕ) → z + suc i ≡ 64 → i < 24 → 46 ≤ i + (z - 17 + x)
lo_exp z i x a b = omega arith

hi_exp : (z i y : ℕ) → z + suc i ≡ 64 → i < 24 → suc i + (z - 17 + y % 2) ≤ 48
hi_exp z i y a b = omega arith

few_of : (z i y : ℕ) → z + suc i ≡ 64 → i < 24 → z - 17 + y % 2 ≤ 47
few_of z i y a b = omega arith

even_of : (z i e : ℕ) → z + suc i ≡ 64 → i < 24 → (e + 149 - (z - 17 + (e + 149 - (z - 17)) % 2)) % 2 ≡ 0
even_of z i e a b = omega arith

scaled : (m e z i : ℕ) → Top m z i → Scaled m e (shift z e)
scaled m e z i t =
    let j = shift z e in
    record {
      least = le_trans (pow_mono (lo_exp z i ((e + 149 - (z - 17)) % 2) t.0 t.3)) (le_trans (le_of_eq (pow-add 2 i j)) (mul-le-mul_right (2 ^ j) t.1));
      most = lt_of_lt_of_le (shl_lt (suc i) j t.2) (pow_mono (hi_exp z i (e + 149 - (z - 17)) t.0 t.3));
      few = few_of z i (e + 149 - (z - 17)) t.0 t.3;
      even = even_of z i e t.0 t.3;
    }

pub scales : (m e : ℕ) → 0 < m → m < 2 ^ 24 → Scaled m e (shift (count_leading_zeros 64 m) e)
scales m e p h = let t = top_of m p h in scaled m e (count_leading_zeros 64 m) t.0 t.1

-- ---- the root's pattern
module _ (m e j q : ℕ) (S : Scaled m e j) (E : e < 254) (R : IsRoot (m * 2 ^ j) q) where
  q_hi : q < 16777216
  q_hi = sq_lt_back q 16777216 (lt_of_le_of_lt R.0 S.most)

  q_lo : 8388608 ≤ q
  q_lo = below (sq_lt_back 8388608 (q + 1) (lt_of_le_of_lt S.least R.1))
    where
      below : 8388608 < q + 1 → 8388608 ≤ q
      below h = omega arith

  k_le : (e + 149 - j) / 2 ≤ 201
  k_le = omega arith

  -- the power of two that is left is 4 ^ k
  split_exp : e + 149 ≡ j + ((e + 149 - j) / 2 + (e + 149 - j) / 2)
  split_exp = omega (arith, S.even, S.few)

  scaled_is : m * 2 ^ (e + 149) ≡ m * 2 ^ j * (2 ^ ((e + 149 - j) / 2) * 2 ^ ((e + 149 - j) / 2))
  scaled_is =
      let k = (e + 149 - j) / 2 in
      ap (λ (x : ℕ). m * 2 ^ x) split_exp ∙ ap (λ (x : ℕ). m * x) (pow-add 2 j (k + k) ∙ ap (λ (x : ℕ). 2 ^ j * x) (pow-add 2 k k)) ∙ sym (mul_assoc m (2 ^ j) (2 ^ k * 2 ^ k))

  pub down_pattern : m * 2 ^ j ≤ q * q + q → of_bits binary32 ((e + 149 - j) / 2 * 8388608 + q) ≡ nearest_root binary32 (m * 2 ^ (e + 149))
  down_pattern h =
      let k = (e + 149 - j) / 2 in
      ap (of_bits binary32) (sym (zero-add (k * 8388608 + q)))
      ∙ packed binary32 false q k (le_of_lt q_hi) (inr q_lo) (le_trans (suc-le-suc k_le) (lit≤ tt))
      ∙ sym (ap (nearest_root binary32) scaled_is ∙ rounds_down binary32 (m * 2 ^ j) k q R q_lo q_hi h)

  pub up_pattern : q * q + q < m * 2 ^ j → of_bits binary32 ((e + 149 - j) / 2 * 8388608 + (q + 1)) ≡ nearest_root binary32 (m * 2 ^ (e + 149))
  up_pattern h =
      let k = (e + 149 - j) / 2 in
      ap (λ (x : ℕ). of_bits binary32 (k * 8388608 + x)) (add-one q)
      ∙ ap (of_bits binary32) (sym (zero-add (k * 8388608 + suc q)))
      ∙ packed binary32 false (suc q) k q_hi (inr (le_trans q_lo (le-suc q))) (le_trans (suc-le-suc k_le) (lit≤ tt))
      ∙ sym (ap (nearest_root binary32) scaled_is ∙ rounds_up binary32 (m * 2 ^ j) k q R q_lo q_hi h)

  pub pattern_lt : (e + 149 - j) / 2 * 8388608 + (q + 1) < 2139095040
  pattern_lt = small ((e + 149 - j) / 2) q k_le q_hi
    where
      small : (k q : ℕ) → k ≤ 201 → q < 16777216 → k * 8388608 + (q + 1) < 2139095040
      small k q a b = omega arith
