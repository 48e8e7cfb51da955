-- `round` at a fraction m * 2 ^ k units, with h binary places after the point of m: it keeps m / 2 ^ h to the nearest whole number, if that has the format's digits or k is 0. Assumes nothing.
use Rattle.std.proofs.Common.{◌≡◌, ℕ, suc, ◌+◌, ◌-◌, ◌*◌, ◌/◌, ◌^◌, ◌<◌, ◌≤◌, Bool, ◌⊎◌, sym, ap, ◌∙◌, subst, inl, inr, le_trans, le_of_eq, lt_of_lt_of_le, mul-le-mul_right, mul_assoc, mul_comm, div-lt_iff_lt-mul, mul-lt-mul_of_pos_right, mul-pos, le-div_iff_mul-le, mul-one, mul_right_comm, arith, pow_pos, pow-add}
use lib.Ieee.{Format, prec, low, size, units, round}
use lib.Ieee.Digits.{size-le}
use lib.Ieee.Fits.{two, round_is}
use lib.Ieee.Nearest.{closest, closest_same, div_same}
use lib.Ieee.Scale.{round_same}
use Rattle.number.proofs.Pack.{size_exact}

drop_none : (z p k : ℕ) → z ≤ p → k ≡ 0 → z - p ≡ k
drop_none z p k h e = omega arith

drop_some : (p k z : ℕ) → 2 ≤ p → z ≡ suc (p - 1 + k) → z - p ≡ k
drop_some p k z h e = omega arith

up_one : (p k : ℕ) → 2 ≤ p → p + k ≡ suc (p - 1 + k)
up_one p k h = omega arith

-- the digits that are dropped of m * 2 ^ k / 2 ^ h
dropped : (p m k h : ℕ) → 2 ≤ p → m < 2 ^ (p + h) → (k ≡ 0) ⊎ (2 ^ (p - 1 + h) ≤ m) → size (m * 2 ^ k / 2 ^ h) - p ≡ k
dropped p m k h P a (inl z) =
    drop_none (size (m * 2 ^ k / 2 ^ h)) p k
    (size-le (m * 2 ^ k / 2 ^ h) p
    ((div-lt_iff_lt-mul (pow_pos h)).1
    (subst (λ (j : ℕ). m * 2 ^ j < 2 ^ p * 2 ^ h) (sym z) (subst (λ (x : ℕ). x < 2 ^ p * 2 ^ h) (sym (mul-one m)) (lt_of_lt_of_le a (le_of_eq (pow-add 2 p h)))))))
    z
dropped p m k h P a (inr l) =
    drop_some p k (size (m * 2 ^ k / 2 ^ h)) P
    (size_exact (p - 1 + k) (m * 2 ^ k / 2 ^ h)
    ((le-div_iff_mul-le (pow_pos h)).1
    (le_trans (le_of_eq (ap (λ (x : ℕ). x * 2 ^ h) (pow-add 2 (p - 1) k) ∙ mul_right_comm (2 ^ (p - 1)) (2 ^ k) (2 ^ h) ∙ ap (λ (x : ℕ). x * 2 ^ k) (sym (pow-add 2 (p - 1) h)))) (mul-le-mul_right (2 ^ k) l)))
    (subst (λ (x : ℕ). m * 2 ^ k / 2 ^ h < 2 ^ x) (up_one p k P)
    ((div-lt_iff_lt-mul (pow_pos h)).1
    (lt_of_lt_of_le (mul-lt-mul_of_pos_right a (pow_pos k))
    (le_of_eq (ap (λ (x : ℕ). x * 2 ^ k) (pow-add 2 p h) ∙ mul_right_comm (2 ^ p) (2 ^ h) (2 ^ k) ∙ ap (λ (x : ℕ). x * 2 ^ h) (sym (pow-add 2 p k))))))))

pub round_at : (f : Format) (s : Bool) (m k h : ℕ) → m < 2 ^ (prec f + h) → (k ≡ 0) ⊎ (2 ^ (prec f - 1 + h) ≤ m) → round f s (m * 2 ^ k) (2 ^ (low f + h)) ≡ units f s (closest m (2 ^ h)) k
round_at f s m k h a l =
    let n = m * 2 ^ k * 2 ^ low f in
    let den = 2 ^ (low f + h) in
    let D : 0 < den = pow_pos (low f + h) in
    let e1 : n / den ≡ m * 2 ^ k / 2 ^ h = div_same n den (m * 2 ^ k) (2 ^ h) D (pow_pos h) (mul_assoc (m * 2 ^ k) (2 ^ low f) (2 ^ h) ∙ ap (λ (x : ℕ). m * 2 ^ k * x) (sym (pow-add 2 (low f) h))) in
    let e2 : size (n / den) - prec f ≡ k = ap (λ (x : ℕ). size x - prec f) e1 ∙ dropped (prec f) m k h (two f) a l in
    round_is f s (m * 2 ^ k) den
    ∙ ap (λ (j : ℕ). units f s (closest n (den * 2 ^ j)) j) e2
    ∙ ap (λ (x : ℕ). units f s x k) (closest_same n (den * 2 ^ k) m (2 ^ h) (mul-pos D (pow_pos k)) (pow_pos h)
    (ap (λ (x : ℕ). x * 2 ^ h) (mul_assoc m (2 ^ k) (2 ^ low f)) ∙ mul_assoc m (2 ^ k * 2 ^ low f) (2 ^ h) ∙ ap (λ (x : ℕ). m * x) (mul_assoc (2 ^ k) (2 ^ low f) (2 ^ h) ∙ ap (λ (x : ℕ). 2 ^ k * x) (sym (pow-add 2 (low f) h)) ∙ mul_comm (2 ^ k) den)))

-- the same from m * 2 ^ e / 2 ^ d, where e - d is k - low - h
pub round_dyadic : (f : Format) (s : Bool) (m e d k h : ℕ) → e + (low f + h) ≡ k + d → m < 2 ^ (prec f + h) → (k ≡ 0) ⊎ (2 ^ (prec f - 1 + h) ≤ m) → round f s (m * 2 ^ e) (2 ^ d) ≡ units f s (closest m (2 ^ h)) k
round_dyadic f s m e d k h q a l =
    round_same f s (m * 2 ^ e) (2 ^ d) (m * 2 ^ k) (2 ^ (low f + h)) (pow_pos d) (pow_pos (low f + h))
    (mul_assoc m (2 ^ e) (2 ^ (low f + h)) ∙ ap (λ (x : ℕ). m * x) (sym (pow-add 2 e (low f + h)) ∙ ap (λ (x : ℕ). 2 ^ x) q ∙ pow-add 2 k d) ∙ sym (mul_assoc m (2 ^ k) (2 ^ d)))
    ∙ round_at f s m k h a l
