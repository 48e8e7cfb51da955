-- On which side of the middle the root lies, against any value of the format: the value that is kept is the nearer one.
-- Assumes nothing.
use mathlib.Core.Path.{◌≡◌, sym, ap, ◌∙◌, subst}
use Prim.Native.Nat.{ℕ, suc, ◌+◌, ◌-◌, ◌*◌, ◌^◌, ◌≤◌, ◌<◌}
use native.Mathlib.Nat.{le_trans, le_of_eq, le_of_lt, lt_of_le_of_lt, lt_of_lt_of_le, not-le_of_lt}
use native.Mathlib.Nat.{mul-le-mul_left, mul-le-mul_right, mul-lt-mul_of_pos_right, mul-pos, mul_assoc, add-mul}
use native.Mathlib.Numerals.{add-one}
use native.Mathlib.Omega.{arith}
use lib.Pow.{pow_pos}
use Rattle.number.proofs.Grid.{no_gap}
use Rattle.root.specs.Inside.{IsRoot}
use Rattle.root.proofs.Squares.{sq_mono, squared, odd_sq, sq_strict, twice_sq}

-- √n is on v's side of the middle between the whole numbers v and w, (v + w) / 2. Twice √n and v + w are compared by
-- their squares. At v = w it says nothing.
abbrev pub OnSideOf : (n v w : ℕ) → Type 0
OnSideOf n v w = (v < w → 4 * n < (v + w) * (v + w)) × (w < v → (v + w) * (v + w) < 4 * n)

-- ---- the two roundings, of √n units of 2 ^ k: a is the whole number of another value's units, 2 ^ i
module _ (p n k q a i : ℕ) (P : 2 ≤ p) (R : IsRoot n q) (Q : 2 ^ (p - 1) ≤ q) (A : a < 2 ^ p) where
  abbrev u : ℕ
  u = 2 ^ k

  abbrev w : ℕ
  w = a * 2 ^ i

  u_sq : 0 < u * u
  u_sq = mul-pos (pow_pos k) (pow_pos k)

  -- the middle between q and q + 1 units, doubled and squared
  middle : (q * u + (q + 1) * u) * (q * u + (q + 1) * u) ≡ (2 * q + 1) * (2 * q + 1) * (u * u)
  middle =
      ap (λ (x : ℕ). x * x) (sym (add-mul q (q + 1) u) ∙ ap (λ (x : ℕ). x * u) (sum q)) ∙ squared (2 * q + 1) u
    where
      sum : (q : ℕ) → q + (q + 1) ≡ 2 * q + 1
      sum q = omega arith

  add_le : (a : ℕ) {b c : ℕ} → b ≤ c → a + b ≤ a + c
  add_le a h = omega arith

  pub nearer_down : n ≤ q * q + q → OnSideOf (n * (u * u)) (q * u) w
  nearer_down h = (up, down)
    where
      less : (n a : ℕ) → n ≤ a → 4 * n < 4 * a + 1
      less n a h = omega arith

      add_lt : (a : ℕ) {b c : ℕ} → b < c → a + b < a + c
      add_lt a h = omega arith

      before : 4 * n < (2 * q + 1) * (2 * q + 1)
      before = subst (λ (x : ℕ). 4 * n < x) (sym (odd_sq q)) (less n (q * q + q) h)

      up : q * u < w → 4 * (n * (u * u)) < (q * u + w) * (q * u + w)
      up l =
          lt_of_lt_of_le
          (lt_of_le_of_lt (le_of_eq (sym (mul_assoc 4 n (u * u)))) (mul-lt-mul_of_pos_right before u_sq))
          (le_trans (le_of_eq (sym middle))
          (sq_mono (q * u + (q + 1) * u) (q * u + w) (add_le (q * u) (no_gap p q k a i P Q A l))))

      down : w < q * u → (q * u + w) * (q * u + w) < 4 * (n * (u * u))
      down l =
          lt_of_lt_of_le (sq_strict (q * u + w) (q * u + q * u) (add_lt (q * u) l))
          (le_trans (le_of_eq (twice_sq (q * u) ∙ ap (λ (x : ℕ). 4 * x) (squared q u)))
          (mul-le-mul_left 4 (mul-le-mul_right (u * u) R.0)))

  pub nearer_up : q * q + q < n → OnSideOf (n * (u * u)) (suc q * u) w
  nearer_up h = subst (λ (r : ℕ). OnSideOf (n * (u * u)) (r * u) w) (add-one q) (up, down)
    where
      v : ℕ
      v = (q + 1) * u

      more : (n a : ℕ) → a < n → 4 * a + 1 < 4 * n
      more n a h = omega arith

      turn : (a b c : ℕ) → b ≤ c → a + b ≤ c + a
      turn a b c h = omega arith

      times_4 : {a b : ℕ} → a < b → 4 * a < 4 * b
      times_4 h = omega arith

      not_less : {a b : ℕ} → (a < b → ⊥) → b ≤ a
      not_less h = omega arith

      after : (2 * q + 1) * (2 * q + 1) < 4 * n
      after = subst (λ (x : ℕ). x < 4 * n) (sym (odd_sq q)) (more n (q * q + q) h)

      up : v < w → 4 * (n * (u * u)) < (v + w) * (v + w)
      up l =
          lt_of_lt_of_le
          (times_4 (lt_of_lt_of_le (mul-lt-mul_of_pos_right R.1 u_sq) (le_of_eq (sym (squared (q + 1) u)))))
          (le_trans (le_of_eq (sym (twice_sq v))) (sq_mono (v + v) (v + w) (add_le v (le_of_lt l))))

      down : w < v → (v + w) * (v + w) < 4 * (n * (u * u))
      down l =
          let under : w ≤ q * u = not_less (λ (g : q * u < w). not-le_of_lt l (no_gap p q k a i P Q A g)) in
          lt_of_le_of_lt (sq_mono (v + w) (q * u + v) (turn v w (q * u) under))
          (lt_of_le_of_lt (le_of_eq middle)
          (lt_of_lt_of_le (mul-lt-mul_of_pos_right after u_sq) (le_of_eq (mul_assoc 4 n (u * u)))))
