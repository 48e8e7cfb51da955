-- `nearest_root` at n * 4 ^ k is the rounding of n's root, k places up: down where the root is not beyond the middle, and up where it is. Assumes nothing.
use mathlib.Core.Path.{◌≡◌, sym, ap, ◌∙◌, subst}
use Prim.Native.Nat.{ℕ, suc, ◌+◌, ◌-◌, ◌*◌, ◌/◌, ◌^◌, ◌≤◌, ◌<◌, compare}
use native.Mathlib.Nat.{le_trans, le_of_eq, le_antisymm, lt_of_le_of_lt, lt_of_lt_of_le, mul-le-mul_right, mul-lt-mul_of_pos_right, mul-pos, mul_assoc, le-div_iff_mul-le, div-lt_iff_lt-mul}
use native.Mathlib.Numerals.{add-one}
use native.Mathlib.Omega.{arith}
use mathlib.Core.Bool.{false}
use lib.Pow.{pow-add, pow_pos}
use lib.Ieee.{Format, prec, size, nearest, units}
use lib.Ieee.Fits.{two}
use Rattle.root.specs.Root.{root, nearest_root}
use Rattle.number.proofs.Pack.{size_exact}
use Rattle.number.proofs.Nearest.{nearest_lt, nearest_gt}
use Rattle.root.proofs.Squares.{squared, odd_sq}
use Rattle.root.proofs.Whole.{below, root_ge, root_lt}
use Rattle.root.specs.Inside.{IsRoot}

off : (p k z : ℕ) → 2 ≤ p → z ≡ suc (p - 1 + k) → z - p ≡ k
off p k z h e = omega arith

up : (p k : ℕ) → 2 ≤ p → p + k ≡ suc (p - 1 + k)
up p k h = omega arith

middle_lt : (n q : ℕ) → n ≤ q * q + q → 4 * n < (2 * q + 1) * (2 * q + 1)
middle_lt n q h = subst (λ (x : ℕ). 4 * n < x) (sym (odd_sq q)) (less n (q * q + q) h)
  where
    less : (n a : ℕ) → n ≤ a → 4 * n < 4 * a + 1
    less n a h = omega arith

middle_gt : (n q : ℕ) → q * q + q < n → (2 * q + 1) * (2 * q + 1) < 4 * n
middle_gt n q h = subst (λ (x : ℕ). x < 4 * n) (sym (odd_sq q)) (less n (q * q + q) h)
  where
    less : (n a : ℕ) → a < n → 4 * a + 1 < 4 * n
    less n a h = omega arith

-- ---- n * 4 ^ k, for an n whose whole root q has the format's digits
module _ (f : Format) (n k q : ℕ) (R : IsRoot n q) (lo : 2 ^ (prec f - 1) ≤ q) (hi : q < 2 ^ prec f) where
  whole_lo : q * 2 ^ k ≤ root (n * (2 ^ k * 2 ^ k))
  whole_lo = root_ge (n * (2 ^ k * 2 ^ k)) (q * 2 ^ k) (le_trans (le_of_eq (squared q (2 ^ k))) (mul-le-mul_right (2 ^ k * 2 ^ k) R.0))

  whole_hi : root (n * (2 ^ k * 2 ^ k)) < (q + 1) * 2 ^ k
  whole_hi = root_lt (n * (2 ^ k * 2 ^ k)) ((q + 1) * 2 ^ k) (lt_of_lt_of_le (mul-lt-mul_of_pos_right R.1 (mul-pos (pow_pos k) (pow_pos k))) (le_of_eq (sym (squared (q + 1) (2 ^ k)))))

  whole_is : root (n * (2 ^ k * 2 ^ k)) / 2 ^ k ≡ q
  whole_is = le_antisymm (below (root (n * (2 ^ k * 2 ^ k)) / 2 ^ k) q ((div-lt_iff_lt-mul (pow_pos k)).1 whole_hi)) ((le-div_iff_mul-le (pow_pos k)).1 whole_lo)

  drops : size (root (n * (2 ^ k * 2 ^ k))) - prec f ≡ k
  drops =
      off (prec f) k (size (root (n * (2 ^ k * 2 ^ k)))) (two f)
      (size_exact (prec f - 1 + k) (root (n * (2 ^ k * 2 ^ k)))
      (le_trans (le_of_eq (pow-add 2 (prec f - 1) k)) (le_trans (mul-le-mul_right (2 ^ k) lo) whole_lo))
      (subst (λ (x : ℕ). root (n * (2 ^ k * 2 ^ k)) < 2 ^ x) (up (prec f) k (two f))
      (lt_of_lt_of_le whole_hi (le_trans (mul-le-mul_right (2 ^ k) (le_trans (le_of_eq (add-one q)) hi)) (le_of_eq (sym (pow-add 2 (prec f) k)))))))

  middle : nearest_root f (n * (2 ^ k * 2 ^ k)) ≡ units f false (nearest q (compare (4 * (n * (2 ^ k * 2 ^ k))) ((2 * q + 1) * 2 ^ k * ((2 * q + 1) * 2 ^ k)))) k
  unfolding nearest_root
  middle =
      ap (λ (j : ℕ). units f false (nearest (root (n * (2 ^ k * 2 ^ k)) / 2 ^ j) (compare (4 * (n * (2 ^ k * 2 ^ k))) ((2 * (root (n * (2 ^ k * 2 ^ k)) / 2 ^ j) + 1) * 2 ^ j * ((2 * (root (n * (2 ^ k * 2 ^ k)) / 2 ^ j) + 1) * 2 ^ j)))) j) drops
      ∙ ap (λ (x : ℕ). units f false (nearest x (compare (4 * (n * (2 ^ k * 2 ^ k))) ((2 * x + 1) * 2 ^ k * ((2 * x + 1) * 2 ^ k)))) k) whole_is

  -- the root is not beyond the middle between q and q + 1
  pub rounds_down : n ≤ q * q + q → nearest_root f (n * (2 ^ k * 2 ^ k)) ≡ units f false q k
  rounds_down h =
      middle
      ∙ ap (λ (x : ℕ). units f false x k) (nearest_lt q (4 * (n * (2 ^ k * 2 ^ k))) ((2 * q + 1) * 2 ^ k * ((2 * q + 1) * 2 ^ k))
      (lt_of_le_of_lt (le_of_eq (sym (mul_assoc 4 n (2 ^ k * 2 ^ k)))) (lt_of_lt_of_le (mul-lt-mul_of_pos_right (middle_lt n q h) (mul-pos (pow_pos k) (pow_pos k))) (le_of_eq (sym (squared (2 * q + 1) (2 ^ k)))))))

  -- the root is beyond it
  pub rounds_up : q * q + q < n → nearest_root f (n * (2 ^ k * 2 ^ k)) ≡ units f false (suc q) k
  rounds_up h =
      middle
      ∙ ap (λ (x : ℕ). units f false x k) (nearest_gt q (4 * (n * (2 ^ k * 2 ^ k))) ((2 * q + 1) * 2 ^ k * ((2 * q + 1) * 2 ^ k))
      (lt_of_le_of_lt (le_of_eq (squared (2 * q + 1) (2 ^ k))) (lt_of_lt_of_le (mul-lt-mul_of_pos_right (middle_gt n q h) (mul-pos (pow_pos k) (pow_pos k))) (le_of_eq (mul_assoc 4 n (2 ^ k * 2 ^ k))))))
