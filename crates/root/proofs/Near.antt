-- `nearest_root` at m * 2 ^ t smallest values, where the format holds m: it is the nearest value to the root that is not
-- below zero. Assumes nothing.
use mathlib.Core.Path.{◌≡◌, sym, ap, ◌∙◌, subst}
use mathlib.Core.Logic.{inl, inr}
use Prim.Native.Nat.{ℕ, suc, ◌+◌, ◌-◌, ◌*◌, ◌/◌, ◌%◌, ◌^◌, ◌≤◌, ◌<◌}
use native.Mathlib.Nat.{le_trans, le_of_eq, le_of_lt, lt_irrefl, lt_of_le_of_lt, lt_of_lt_of_le, lt_of_not-le}
use native.Mathlib.Nat.{mul-le-mul_right, mul-pos, mul_assoc, le-add_left, zero-lt-suc}
use native.Mathlib.Omega.{arith}
use mathlib.Core.Bool.{false}
use lib.Dec.{lit≤}
use lib.Pow.{pow-add, pow_pos, pow_mono, pow-lt, shl_lt}
use lib.Ieee.{Float, Format, binary32, binary64, prec, emax, low, size}
use lib.Ieee.Digits.{size-lt, size-le, size_reaches}
use lib.Ieee.Fits.{two}
use lib.Ieee.Exact.{HasValue, units_val}
use Rattle.number.proofs.Pack.{split}
use Rattle.number.proofs.Grid.{OnGrid}
use Rattle.root.specs.Root.{nearest_root, root}
use Rattle.root.proofs.Whole.{root_law, root_ge, root_lt}
use Rattle.root.proofs.Rounds.{rounds_down, rounds_up}
use Rattle.root.proofs.Sides.{OnSideOf, nearer_down, nearer_up}

-- ---- x, scaled so that its whole root has the format's digits
roomy : (f : Format) → (2 * prec f - 1 ≤ low f) × (prec f + emax f / 2 ≤ emax f)
roomy binary32 = (lit≤ tt, lit≤ tt)
roomy binary64 = (lit≤ tt, lit≤ tt)

-- the shift of an m of z digits, for an even power of two below 2 ^ t
abbrev shift : ℕ → ℕ → ℕ → ℕ
shift p z t = 2 * p - 1 - z + (t - (2 * p - 1 - z)) % 2

shift_lo : (p z t : ℕ) → 2 ≤ p → 0 < z → z ≤ p → p - 1 + (p - 1) ≤ z - 1 + shift p z t
shift_lo p z t P a b = omega arith

shift_hi : (p z t : ℕ) → 2 ≤ p → 0 < z → z ≤ p → z + shift p z t ≤ p + p
shift_hi p z t P a b = omega arith

shift_even : (p z t : ℕ) → 2 ≤ p → 0 < z → z ≤ p → 2 * p - 1 ≤ t
    → t ≡ shift p z t + ((t - shift p z t) / 2 + (t - shift p z t) / 2)
shift_even p z t P a b c = omega arith

size_pos : (m : ℕ) → 0 < m → 0 < size m
size_pos m h =
    lt_of_not-le (λ (g : size m ≤ 0). lt_irrefl 1 (lt_of_le_of_lt (suc_le h) (lt_of_lt_of_le (size-lt m) (pow_mono g))))
  where
    suc_le : {a : ℕ} → 0 < a → 1 ≤ a
    suc_le h = h

pred_lt : (z : ℕ) → 0 < z → z - 1 < z
pred_lt z h = omega arith

abbrev Scaling : (f : Format) (m t : ℕ) → Type 0
Scaling f m t =
    (n : ℕ) × (k : ℕ) × (m * 2 ^ t ≡ n * (2 ^ k * 2 ^ k))
    × (2 ^ (prec f - 1) ≤ root n) × (root n < 2 ^ prec f) × (k + k ≤ t)

scale : (f : Format) (m t : ℕ) → 0 < m → m < 2 ^ prec f → low f ≤ t → Scaling f m t
scale f m t M D L =
    let p = prec f in
    let z = size m in
    let Z : 0 < z = size_pos m M in
    let Zp : z ≤ p = size-le m p D in
    let s = shift p z t in
    let k = (t - s) / 2 in
    let e : t ≡ s + (k + k) = shift_even p z t (two f) Z Zp (le_trans (roomy f).0 L) in
    let n = m * 2 ^ s in
    let lo : 2 ^ (p - 1) * 2 ^ (p - 1) ≤ n =
    le_trans (le_of_eq (sym (pow-add 2 (p - 1) (p - 1))))
    (le_trans (pow_mono (shift_lo p z t (two f) Z Zp))
    (le_trans (le_of_eq (pow-add 2 (z - 1) s)) (mul-le-mul_right (2 ^ s) (size_reaches m (z - 1) (pred_lt z Z))))) in
    let hi : n < 2 ^ p * 2 ^ p =
    lt_of_lt_of_le (shl_lt z s (size-lt m))
    (le_trans (pow_mono (shift_hi p z t (two f) Z Zp)) (le_of_eq (pow-add 2 p p))) in (
      n,
      k,
      ap (λ (x : ℕ). m * 2 ^ x) e
          ∙ ap (λ (x : ℕ). m * x) (pow-add 2 s (k + k) ∙ ap (λ (x : ℕ). 2 ^ s * x) (pow-add 2 k k))
          ∙ sym (mul_assoc m (2 ^ s) (2 ^ k * 2 ^ k)),
      root_ge n (2 ^ (p - 1)) lo,
      root_lt n (2 ^ p) hi,
      within t s (k + k) e,
    )
  where
    within : (t s d : ℕ) → t ≡ s + d → d ≤ t
    within t s d e = omega arith

under_top : (p e l j k : ℕ) → p + e / 2 ≤ e → j < suc e + l → k + k ≤ j + l → p + k < l + suc e
under_top p e l j k a b c = omega arith

-- r is v smallest values, above zero, and √n lies on its side against every value of the format that is not below zero
abbrev pub NearestAbove : Format → ℕ → Float → Type 0
NearestAbove f n r = (v : ℕ) × HasValue r false v (2 ^ low f) × (0 < v) × ((w : ℕ) → OnGrid f w → OnSideOf n v w)

pub nearest_at : (f : Format) (m j : ℕ) → 0 < m → m < 2 ^ prec f → j < suc (emax f) + low f
    → NearestAbove f (m * 2 ^ (j + low f)) (nearest_root f (m * 2 ^ (j + low f)))
nearest_at f m j M D J =
    let S = scale f m (j + low f) M D (le-add_left (low f) j) in
    let n = S.0 in
    let k = S.1 in
    let N = n * (2 ^ k * 2 ^ k) in
    let q = root n in
    let K : prec f + k < low f + suc (emax f) = under_top (prec f) (emax f) (low f) j k (roomy f).1 J S.5 in
    let fine : (r : ℕ) → r ≤ 2 ^ prec f → r * 2 ^ k < 2 ^ (low f + suc (emax f)) =
    λ r h. lt_of_le_of_lt (le_trans (mul-le-mul_right (2 ^ k) h) (le_of_eq (sym (pow-add 2 (prec f) k)))) (pow-lt K) in
    subst (λ (x : ℕ). NearestAbove f x (nearest_root f x)) (sym S.2)
    (elim (split (q * q + q) n) [
      | inl h ↦ (
        suc q * 2 ^ k,
        subst (λ (r : Float). HasValue r false (suc q * 2 ^ k) (2 ^ low f))
            (sym (rounds_up f n k q (root_law n) S.3 S.4 h))
            (units_val f false (suc q) k (fine (suc q) S.4)),
        mul-pos (zero-lt-suc q) (pow_pos k),
        λ w g.
            subst (λ (x : ℕ). OnSideOf N (suc q * 2 ^ k) x) (sym g.3)
            (nearer_up (prec f) n k q g.0 g.1 (two f) (root_law n) S.3 g.2 h),
      )
      | inr h ↦ (
        q * 2 ^ k,
        subst (λ (r : Float). HasValue r false (q * 2 ^ k) (2 ^ low f))
            (sym (rounds_down f n k q (root_law n) S.3 S.4 h))
            (units_val f false q k (fine q (le_of_lt S.4))),
        mul-pos (lt_of_lt_of_le (pow_pos (prec f - 1)) S.3) (pow_pos k),
        λ w g.
            subst (λ (x : ℕ). OnSideOf N (q * 2 ^ k) x) (sym g.3)
            (nearer_down (prec f) n k q g.0 g.1 (two f) (root_law n) S.3 g.2 h),
      )
    ])
