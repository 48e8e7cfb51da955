-- Where n / c lies among the values of a format, both counted in its smallest: `dropped` digits are dropped, the lower
-- neighbour is `whole` of what is left, no value lies between the neighbours, and `chosen` is the one that is kept.
-- Assumes nothing.
use Rattle.std.proofs.Common.{◌≡◌, ℕ, suc, ◌+◌, ◌-◌, ◌*◌, ◌/◌, ◌%◌, ◌^◌, ◌<◌, ◌≤◌, ◌⊎◌, sym, ap, ◌∙◌, subst, inl, inr, le_trans, le_of_eq, mod-lt, mul_assoc, suc-mul, mul_comm, eq-or-lt_of_le, mul-lt-mul_of_pos_right, mul-pos, div-add-mod', le-div_iff_mul-le, mul-one, div-mul-le_self, add-one, arith, pow_pos, pow-add}
use Prim.Native.Nat.{compare}
use native.Mathlib.Nat.{div-div-eq-div-mul}
use lib.Ieee.{Format, prec, size, hid}
use lib.Ieee.Digits.{size_reaches}
use lib.Ieee.Fits.{two, kept-lt, nearest-le}
use lib.Ieee.Nearest.{closest, nearest-ge}
use Rattle.number.proofs.Pack.{split}
use Rattle.number.proofs.Grid.{OnGrid, no_gap}
use Rattle.number.proofs.Middle.{Kept, kept, Lies, under, at_lower, at_upper, over}

-- w units of 2 ^ k, in parts of 1 / c
pub spot : (w k c : ℕ) → w * 2 ^ k * c ≡ w * (c * 2 ^ k)
spot w k c = mul_assoc w (2 ^ k) c ∙ ap (λ (x : ℕ). w * x) (mul_comm (2 ^ k) c)

module _ (f : Format) (n c : ℕ) where
  abbrev pub dropped : ℕ
  dropped = size (n / c) - prec f

  abbrev pub unit : ℕ
  unit = c * 2 ^ dropped

  abbrev pub whole : ℕ
  whole = n / unit

  abbrev pub chosen : ℕ
  chosen = closest n unit

  pub digits : whole < 2 ^ prec f
  digits = subst (λ (x : ℕ). x < 2 ^ prec f) (div-div-eq-div-mul n c (2 ^ dropped)) (kept-lt (prec f) (n / c))

  -- where digits are dropped, all that the format has are left
  pub leading : (dropped ≡ 0) ⊎ (hid f ≤ whole)
  leading = go (split (prec f) (size (n / c)))
    where
      none : (z p : ℕ) → z ≤ p → z - p ≡ 0
      none z p h = omega arith

      less : (z p : ℕ) → 2 ≤ p → p < z → p - 1 + (z - p) < z
      less z p P h = omega arith

      go : (prec f < size (n / c)) ⊎ (size (n / c) ≤ prec f) → (dropped ≡ 0) ⊎ (hid f ≤ whole)
      go (inr h) = inl (none (size (n / c)) (prec f) h)
      go (inl h) =
          let fill : hid f * 2 ^ dropped ≤ n / c =
          le_trans (le_of_eq (sym (pow-add 2 (prec f - 1) dropped)))
          (size_reaches (n / c) (prec f - 1 + dropped) (less (size (n / c)) (prec f) (two f) h)) in
          inr
          (subst (λ (x : ℕ). hid f ≤ x) (div-div-eq-div-mul n c (2 ^ dropped))
          ((le-div_iff_mul-le (pow_pos dropped)).1 fill))

  pub keeps : Kept n unit whole (whole * unit) chosen
  keeps = kept n unit

  pub chosen_le : chosen ≤ 2 ^ prec f
  chosen_le = le_trans (nearest-le whole (compare (n % unit * 2) unit)) digits

  pub chosen_leading : (dropped ≡ 0) ⊎ (hid f ≤ chosen)
  chosen_leading = go leading
    where
      go : (dropped ≡ 0) ⊎ (hid f ≤ whole) → (dropped ≡ 0) ⊎ (hid f ≤ chosen)
      go (inl z) = inl z
      go (inr h) = inr (le_trans h (nearest-ge whole (compare (n % unit * 2) unit)))

  pub below : whole * unit ≤ n
  below = div-mul-le_self n unit

  module _ (C : 0 < c) where
    pub unit_pos : 0 < unit
    unit_pos = mul-pos C (pow_pos dropped)

    pub above : n < whole * unit + unit
    above = by (whole * unit) (n % unit) unit (div-add-mod' n unit) (mod-lt n unit_pos)
      where
        by : (a r u : ℕ) → a + r ≡ n → r < u → n < a + u
        by a r u e h = omega arith

    -- ---- no value lies between the neighbours
    next : (a i : ℕ) → a < 2 ^ prec f → whole * 2 ^ dropped < a * 2 ^ i → suc whole * 2 ^ dropped ≤ a * 2 ^ i
    next a i A h = go leading
      where
        go : (dropped ≡ 0) ⊎ (hid f ≤ whole) → suc whole * 2 ^ dropped ≤ a * 2 ^ i
        go (inr l) =
            subst (λ (x : ℕ). x * 2 ^ dropped ≤ a * 2 ^ i) (add-one whole)
            (no_gap (prec f) whole dropped a i (two f) l A h)
        go (inl z) =
            let h' : whole * 2 ^ 0 < a * 2 ^ i = subst (λ (k : ℕ). whole * 2 ^ k < a * 2 ^ i) z h in
            subst (λ (k : ℕ). suc whole * 2 ^ k ≤ a * 2 ^ i) (sym z)
            (le_trans (le_of_eq (mul-one (suc whole))) (subst (λ (x : ℕ). x < a * 2 ^ i) (mul-one whole) h'))

    pub lies : (w : ℕ) → OnGrid f w → Lies (whole * unit) unit (w * c)
    lies w (a, i, A, e) = go (split w (whole * 2 ^ dropped))
      where
        at : w ≡ whole * 2 ^ dropped → w * c ≡ whole * unit
        at h = ap (λ (x : ℕ). x * c) h ∙ spot whole dropped c

        one_more : suc whole * 2 ^ dropped * c ≡ whole * unit + unit
        one_more = spot (suc whole) dropped c ∙ suc-mul whole unit

        beyond : (suc whole * 2 ^ dropped ≡ w) ⊎ (suc whole * 2 ^ dropped < w) → Lies (whole * unit) unit (w * c)
        beyond (inl h) = at_upper (ap (λ (x : ℕ). x * c) (sym h) ∙ one_more)
        beyond (inr h) = over (subst (λ (x : ℕ). x < w * c) one_more (mul-lt-mul_of_pos_right h C))

        from : (whole * 2 ^ dropped ≡ w) ⊎ (whole * 2 ^ dropped < w) → Lies (whole * unit) unit (w * c)
        from (inl g) = at_lower (at (sym g))
        from (inr g) =
            let g' : whole * 2 ^ dropped < a * 2 ^ i = subst (λ (x : ℕ). whole * 2 ^ dropped < x) e g in
            beyond (eq-or-lt_of_le (subst (λ (x : ℕ). suc whole * 2 ^ dropped ≤ x) (sym e) (next a i A g')))

        go : (w < whole * 2 ^ dropped) ⊎ (whole * 2 ^ dropped ≤ w) → Lies (whole * unit) unit (w * c)
        go (inl h) = under (subst (λ (x : ℕ). w * c < x) (spot whole dropped c) (mul-lt-mul_of_pos_right h C))
        go (inr h) = from (eq-or-lt_of_le h)
