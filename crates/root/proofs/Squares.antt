-- Laws of squares. Assumes nothing.
use mathlib.Core.Path.{◌≡◌, ap, ◌∙◌}
use Prim.Native.Nat.{ℕ, ◌+◌, ◌*◌, ◌≤◌, ◌<◌, zero-le}
use native.Mathlib.Nat.{le_of_lt, le_trans, lt_of_le_of_lt, lt_of_not-le, not-le_of_lt, mul-le-mul_left, mul-le-mul_right, mul-lt-mul_of_pos_right, mul_assoc, mul_left_comm, mul-add, add-mul}
use native.Mathlib.Omega.{arith}

pub sq_mono : (a b : ℕ) → a ≤ b → a * a ≤ b * b
sq_mono a b h = le_trans (mul-le-mul_left a h) (mul-le-mul_right b h)

pub sq_lt_back : (a b : ℕ) → a * a < b * b → a < b
sq_lt_back a b h = lt_of_not-le (λ (g : b ≤ a). not-le_of_lt h (sq_mono b a g))

pub squared : (a b : ℕ) → a * b * (a * b) ≡ a * a * (b * b)
squared a b = simp (mul_assoc, mul_left_comm)

pub double_sq : (r : ℕ) → (2 * r) * (2 * r) ≡ 4 * (r * r)
double_sq r = squared 2 r

pub sq_strict : (a b : ℕ) → a < b → a * a < b * b
sq_strict a b h = lt_of_le_of_lt (mul-le-mul_left a (le_of_lt h)) (mul-lt-mul_of_pos_right h (lt_of_le_of_lt zero-le h))

pub twice_sq : (v : ℕ) → (v + v) * (v + v) ≡ 4 * (v * v)
twice_sq v = ap (λ (x : ℕ). x * x) (two v) ∙ squared 2 v
  where
    two : (v : ℕ) → v + v ≡ 2 * v
    two v = omega arith

-- four times n against the square of 2 * q + 1, which is 4 * (q * q + q) + 1
pub odd_sq : (q : ℕ) → (2 * q + 1) * (2 * q + 1) ≡ 4 * (q * q + q) + 1
odd_sq q = expand q (q * q) (double_sq q)
  where
    expand : (q s : ℕ) → 2 * q * (2 * q) ≡ 4 * s → (2 * q + 1) * (2 * q + 1) ≡ 4 * (s + q) + 1
    expand q s e = add-mul (2 * q) 1 (2 * q + 1) ∙ ap (λ (x : ℕ). x + 1 * (2 * q + 1)) (mul-add (2 * q) (2 * q) 1) ∙ sum (2 * q * (2 * q)) q s e
      where
        sum : (a q s : ℕ) → a ≡ 4 * s → a + 2 * q * 1 + 1 * (2 * q + 1) ≡ 4 * (s + q) + 1
        sum a q s e = omega arith
