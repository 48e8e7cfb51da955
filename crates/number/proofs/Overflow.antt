-- Where a number is too large for a format: what is kept of a / c is below 2 ^ (emax + 1) exactly where a / c is below
-- `too_large`, the middle before it. Assumes nothing.
use Rattle.std.proofs.Common.{◌≡◌, ℕ, suc, ◌+◌, ◌-◌, ◌*◌, ◌/◌, ◌%◌, ◌^◌, ◌<◌, ◌≤◌, ◌⊎◌, sym, refl, ap, ◌∙◌, subst, inl, inr, le_trans, le_of_eq, lt_of_lt_of_le, le_of_suc-le-suc, lt_of_le_of_lt, mul-le-mul_right, mul_assoc, suc-mul, mul_comm, div-lt_iff_lt-mul, add-mul, le_antisymm, eq-or-lt_of_le, mul-lt-mul_of_pos_right, one-mul, le-div_iff_mul-le, mul_right_comm, arith, pow_pos, pow_mono, pow-add, shl_lt}
use lib.Pow.{pow-lt, suc_ones}
use lib.Ieee.{Format, binary32, binary64, prec, emax, low, size, hid}
use lib.Ieee.Digits.{size-lt, size-le}
use lib.Ieee.Fits.{two}
use Rattle.number.specs.Nearest.{too_large}
use Rattle.number.proofs.Pack.{pow_lt_back, twice_hid}
use Rattle.number.proofs.Middle.{ToLower, ToUpper, Kept, lower, upper}
use Rattle.number.proofs.Placed.{spot, dropped, unit, whole, chosen}
use Rattle.number.proofs.Placed.{digits, keeps, chosen_le, chosen_leading, unit_pos}

-- the highest place: 2 ^ prec of 2 ^ highest are 2 ^ (emax + 1)
abbrev highest : Format → ℕ
highest f = emax f - prec f + suc (low f)

top_is : (f : Format) → low f + suc (emax f) ≡ prec f + highest f
top_is binary32 = refl
top_is binary64 = refl

limit : (f : Format) → too_large f * 2 ^ low f * 2 + 2 ^ highest f ≡ 2 * (2 ^ prec f * 2 ^ highest f)
limit binary32 = refl
limit binary64 = refl

-- the same in parts of 1 / c
limit_at : (f : Format) (c : ℕ)
    → too_large f * c * 2 ^ low f * 2 + c * 2 ^ highest f ≡ 2 * (2 ^ prec f * (c * 2 ^ highest f))
limit_at f c =
    let L = too_large f in
    let l = 2 ^ low f in
    let h = 2 ^ highest f in
    let left : L * c * l * 2 ≡ L * l * 2 * c =
    ap (λ (x : ℕ). x * 2) (mul_right_comm L c l) ∙ mul_right_comm (L * l) c 2 in
    ap (λ (x : ℕ). x + c * h) left
    ∙ ap (λ (x : ℕ). L * l * 2 * c + x) (mul_comm c h)
    ∙ sym (add-mul (L * l * 2) h c)
    ∙ ap (λ (x : ℕ). x * c) (limit f)
    ∙ mul_assoc 2 (2 ^ prec f * h) c
    ∙ ap (λ (x : ℕ). 2 * x) (spot (2 ^ prec f) (highest f) c)

-- n / c smallest values, of which r * 2 ^ k are kept; `most` is the highest place in parts of 1 / c
module _ (f : Format) (n c : ℕ) (C : 0 < c) where
  abbrev k : ℕ
  k = dropped f n c

  abbrev u : ℕ
  u = unit f n c

  abbrev q : ℕ
  q = whole f n c

  abbrev r : ℕ
  r = chosen f n c

  abbrev z : ℕ
  z = size (n / c)

  abbrev most : ℕ
  most = c * 2 ^ highest f

  -- 2 ^ i times the highest place
  raised : (i : ℕ) → 2 ^ i * most ≡ 2 ^ (i + highest f) * c
  raised i = sym (spot (2 ^ i) (highest f) c) ∙ ap (λ (x : ℕ). x * c) (sym (pow-add 2 i (highest f)))

  same_unit : k ≡ highest f → most ≡ u
  same_unit e = ap (λ (k : ℕ). c * 2 ^ k) (sym e)

  -- ---- below the middle
  stays_under : 2 * n + most < 2 * (2 ^ prec f * most) → r * 2 ^ k < 2 ^ (low f + suc (emax f))
  stays_under h = subst (λ (x : ℕ). r * 2 ^ k < 2 ^ x) (sym (top_is f)) (go (eq-or-lt_of_le low_enough))
    where
      less : (n u x : ℕ) → 2 * n + u < 2 * x → n < x
      less n u x h = omega arith

      room : (z p i : ℕ) → z ≤ p + i → z - p ≤ i
      room z p i h = omega arith

      fewer : n / c < 2 ^ (prec f + highest f)
      fewer =
          (div-lt_iff_lt-mul C).1 (lt_of_lt_of_le (less n most (2 ^ prec f * most) h) (le_of_eq (raised (prec f))))

      low_enough : k ≤ highest f
      low_enough = room z (prec f) (highest f) (size-le (n / c) (prec f + highest f) fewer)

      not_full : k ≡ highest f → Kept n u q (q * u) r → r < 2 ^ prec f
      not_full e (lower i m) = subst (λ (x : ℕ). x < 2 ^ prec f) (sym i) (digits f n c)
      not_full e (upper i m) = by (eq-or-lt_of_le (digits f n c))
        where
          h' : 2 * n + u < 2 * (2 ^ prec f * u)
          h' = subst (λ (x : ℕ). 2 * n + x < 2 * (2 ^ prec f * x)) (same_unit e) h

          clash : (n u a : ℕ) → 2 * n + u < 2 * (a + u) → ToUpper n u q a → ⊥
          clash n u a h (inl m) = omega arith
          clash n u a h (inr (m, z)) = omega arith

          by : (suc q ≡ 2 ^ prec f) ⊎ (suc q < 2 ^ prec f) → r < 2 ^ prec f
          by (inl g) =
              let full : 2 ^ prec f * u ≡ q * u + u = ap (λ (x : ℕ). x * u) (sym g) ∙ suc-mul q u in
              absurd (clash n u (q * u) (subst (λ (x : ℕ). 2 * n + u < 2 * x) full h') m)
          by (inr g) = subst (λ (x : ℕ). x < 2 ^ prec f) (sym i) g

      more : (p k h : ℕ) → k < h → p + k < p + h
      more p k h l = omega arith

      go : (k ≡ highest f) ⊎ (k < highest f) → r * 2 ^ k < 2 ^ (prec f + highest f)
      go (inl e) =
          subst (λ (i : ℕ). r * 2 ^ k < 2 ^ (prec f + i)) e (shl_lt (prec f) k (not_full e (keeps f n c)))
      go (inr l) =
          let at_most : r * 2 ^ k ≤ 2 ^ (prec f + k) =
          le_trans (mul-le-mul_right (2 ^ k) (chosen_le f n c)) (le_of_eq (sym (pow-add 2 (prec f) k))) in
          lt_of_le_of_lt at_most (pow-lt (more (prec f) k (highest f) l))

  -- ---- from the middle on
  goes_over : 2 * (2 ^ prec f * most) ≤ 2 * n + most → 2 ^ (low f + suc (emax f)) ≤ r * 2 ^ k
  goes_over h = subst (λ (x : ℕ). 2 ^ x ≤ r * 2 ^ k) (sym (top_is f)) (go (eq-or-lt_of_le high_enough))
    where
      large : (n u x y : ℕ) → x ≡ 2 * y → u ≤ y → 2 * x ≤ 2 * n + u → y ≤ n
      large n u x y e l h = omega arith

      room : (z p i : ℕ) → 2 ≤ p → p - 1 + i < z → i ≤ z - p
      room z p i P h = omega arith

      doubled : 2 ^ prec f * most ≡ 2 * (hid f * most)
      doubled = ap (λ (x : ℕ). x * most) (twice_hid (prec f) (two f)) ∙ mul_assoc 2 (hid f) most

      one_place : most ≤ hid f * most
      one_place = le_trans (le_of_eq (sym (one-mul most))) (mul-le-mul_right most (pow_pos (prec f - 1)))

      reached : 2 ^ (prec f - 1 + highest f) ≤ n / c
      reached =
          (le-div_iff_mul-le C).1
          (le_trans (le_of_eq (sym (raised (prec f - 1))))
          (large n most (2 ^ prec f * most) (hid f * most) doubled one_place h))

      high_enough : highest f ≤ k
      high_enough =
          room z (prec f) (highest f) (two f)
          (pow_lt_back (prec f - 1 + highest f) z (lt_of_le_of_lt reached (size-lt (n / c))))

      full : k ≡ highest f → 2 ^ prec f ≤ r
      full e = by (keeps f n c)
        where
          P : ℕ
          P = 2 ^ prec f - 1

          P-is : suc P ≡ 2 ^ prec f
          P-is = suc_ones (prec f)

          h' : 2 * (P * u + u) ≤ 2 * n + u
          h' =
              subst (λ (x : ℕ). 2 * x ≤ 2 * n + u) (ap (λ (x : ℕ). x * u) (sym P-is) ∙ suc-mul P u)
              (subst (λ (x : ℕ). 2 * (2 ^ prec f * x) ≤ 2 * n + x) (same_unit e) h)

          reach : (a u n : ℕ) → 2 * (a + u) ≤ 2 * n + u → a ≤ n
          reach a u n h = omega arith

          q_is : q ≡ P
          q_is =
              le_antisymm (le_of_suc-le-suc (le_trans (digits f n c) (le_of_eq (sym P-is))))
              ((le-div_iff_mul-le (unit_pos f n c C)).1 (reach (P * u) u n h'))

          h'' : 2 * (q * u + u) ≤ 2 * n + u
          h'' = subst (λ (x : ℕ). 2 * (x * u + u) ≤ 2 * n + u) (sym q_is) h'

          even : (q w : ℕ) → suc q ≡ 2 * w → q % 2 ≡ 0 → ⊥
          even q w e z = omega arith

          clash : (n u a : ℕ) → 2 * (a + u) ≤ 2 * n + u → ToLower n u q a → ⊥
          clash n u a h (inl m) = omega arith
          clash n u a h (inr (m, z)) = even q (hid f) (ap suc q_is ∙ P-is ∙ twice_hid (prec f) (two f)) z

          by : Kept n u q (q * u) r → 2 ^ prec f ≤ r
          by (lower i m) = absurd (clash n u (q * u) h'' m)
          by (upper i m) = le_of_eq (sym P-is ∙ ap suc (sym q_is) ∙ sym i)

      off : (h k : ℕ) → h < k → k ≡ 0 → ⊥
      off h k l z = omega arith

      more : (p h k : ℕ) → 2 ≤ p → h < k → p + h ≤ p - 1 + k
      more p h k P l = omega arith

      go : (highest f ≡ k) ⊎ (highest f < k) → 2 ^ (prec f + highest f) ≤ r * 2 ^ k
      go (inl e) =
          le_trans (le_of_eq (ap (λ (i : ℕ). 2 ^ (prec f + i)) e ∙ pow-add 2 (prec f) k))
          (mul-le-mul_right (2 ^ k) (full (sym e)))
      go (inr l) = by (chosen_leading f n c)
        where
          by : (k ≡ 0) ⊎ (hid f ≤ r) → 2 ^ (prec f + highest f) ≤ r * 2 ^ k
          by (inl z) = absurd (off (highest f) k l z)
          by (inr g) =
              le_trans (pow_mono (more (prec f) (highest f) k (two f) l))
              (le_trans (le_of_eq (pow-add 2 (prec f - 1) k)) (mul-le-mul_right (2 ^ k) g))

-- ---- the same for a number a / c, which is a * 2 ^ low / c smallest values
pub small_enough : (f : Format) (a c : ℕ) → 0 < c → a < too_large f * c
    → chosen f (a * 2 ^ low f) c * 2 ^ dropped f (a * 2 ^ low f) c < 2 ^ (low f + suc (emax f))
small_enough f a c C h =
    let n = a * 2 ^ low f in
    let u = c * 2 ^ highest f in
    let less : n < too_large f * c * 2 ^ low f = mul-lt-mul_of_pos_right h (pow_pos (low f)) in
    stays_under f n c C (by n (too_large f * c * 2 ^ low f) u (2 ^ prec f * u) (limit_at f c) less)
  where
    by : (n l u x : ℕ) → l * 2 + u ≡ 2 * x → n < l → 2 * n + u < 2 * x
    by n l u x e h = omega arith

pub large_enough : (f : Format) (a c : ℕ) → 0 < c → too_large f * c ≤ a
    → 2 ^ (low f + suc (emax f)) ≤ chosen f (a * 2 ^ low f) c * 2 ^ dropped f (a * 2 ^ low f) c
large_enough f a c C h =
    let n = a * 2 ^ low f in
    let u = c * 2 ^ highest f in
    let more : too_large f * c * 2 ^ low f ≤ n = mul-le-mul_right (2 ^ low f) h in
    goes_over f n c C (by n (too_large f * c * 2 ^ low f) u (2 ^ prec f * u) (limit_at f c) more)
  where
    by : (n l u x : ℕ) → l * 2 + u ≡ 2 * x → l ≤ n → 2 * x ≤ 2 * n + u
    by n l u x e h = omega arith
