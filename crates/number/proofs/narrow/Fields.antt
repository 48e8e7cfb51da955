-- An f64's fields to an f32's pattern, in the four ranges that the code tells apart. Assumes nothing.
use Rattle.std.proofs.Common.{◌≡◌, ℕ, zero, suc, ◌+◌, ◌-◌, ◌*◌, ◌/◌, ◌%◌, ◌^◌, ◌<◌, ◌≤◌, Bool, cond, not, ◌&&◌, T, eqb, sym, refl, ap, ◌∙◌, subst, inl, inr, le_trans, le_of_eq, lt_of_lt_of_le, le_of_suc-le-suc, mul-le-mul_right, zero-lt-suc, eq-or-lt_of_le, mul-le-mul_left, one-mul, le-div_iff_mul-le, zero-add, arith, lit<, lit≤, eqb→eq, pow_pos, pow_mono, pow-add}
use Prim.Native.Nat.{compare}
use lib.Dec.{eqb-suc-zero, not_T}
use lib.Ieee.{Float, nan, inf, fin, binary32, binary64, up, down, odd, units, round, of_fields, of_bits}
use lib.Ieee.Bits.{cond_no}
use lib.Ieee.Fits.{down_pos}
use lib.Ieee.Exact.{HasValue, odd_sign}
use lib.Ieee.Nearest.{closest, closest_mono, nearest-ge}
use lib.Ieee.Scale.{round_same}
use Rattle.number.specs.Narrow.{narrowed}
use Rattle.number.proofs.Pack.{packed, inf_bits, units_over}
use Rattle.number.proofs.Dyadic.{round_dyadic}
use Rattle.number.proofs.Adding.{kept_le}

-- ---- narrowing sees only the value
narrowed_val : (v : Float) (s : Bool) (a c : ℕ) → 0 < c → HasValue v s a c → narrowed v ≡ round binary32 s a c
unfolding narrowed
narrowed_val nan s a c C h = absurd h
narrowed_val (inf t) s a c C h = absurd h
narrowed_val (fin t m e) s a c C h = round_same binary32 t (m * up e) (down e) a c (down_pos e) C h.1 ∙ ap (λ (b : Bool). round binary32 b a c) h.0

-- ---- what an f64's fields stand for
differ : (x : ℕ) → suc x < 2047 → suc x ≡ 2047 → ⊥
differ x h e = omega arith

pub normal : (s : Bool) (x t : ℕ) → suc x < 2047 → of_fields binary64 s (suc x) t ≡ odd 53 s (2 ^ 52 + t) x 1074
unfolding of_fields
normal s x t h = cond_no (eqb (suc x) 2047) (cond (eqb t 0) (inf s) nan) (odd 53 s (2 ^ 52 + t) x 1074) (not_T (eqb (suc x) 2047) (λ (u : T (eqb (suc x) 2047)). differ x h (eqb→eq (suc x) 2047 u)))

pub subnormal : (s : Bool) (t : ℕ) → of_fields binary64 s 0 t ≡ odd 53 s t 0 1074
unfolding of_fields
subnormal s t = refl

narrowed_odd : (s : Bool) (m x : ℕ) → narrowed (odd 53 s m x 1074) ≡ round binary32 s (m * 2 ^ x) (2 ^ 1074)
narrowed_odd s m x = narrowed_val (odd 53 s m x 1074) s (m * 2 ^ x) (2 ^ 1074) (pow_pos 1074) (odd_sign 53 s m x 1074)

pub one_below : (g : ℕ) → 0 < g → suc (g - 1) ≡ g
one_below g h = omega arith

turned : (t : ℕ) → 4503599627370496 + t ≡ t + 4503599627370496
turned t = omega arith

-- from field 1 on
pub fields_value : (s : Bool) (g d : ℕ) → 0 < g → g < 2047 → HasValue (of_fields binary64 s g d) s ((d + 4503599627370496) * 2 ^ (g - 1)) (2 ^ 1074)
fields_value s g d l u =
    subst (λ (v : Float). HasValue v s ((d + 4503599627370496) * 2 ^ (g - 1)) (2 ^ 1074))
    (sym (ap (λ (z : ℕ). of_fields binary64 s z d) (sym (one_below g l)) ∙ normal s (g - 1) d (subst (λ (z : ℕ). z < 2047) (sym (one_below g l)) u)))
    (subst (λ (z : ℕ). HasValue (odd 53 s (4503599627370496 + d) (g - 1) 1074) s (z * 2 ^ (g - 1)) (2 ^ 1074)) (turned d) (odd_sign 53 s (4503599627370496 + d) (g - 1) 1074))

narrowed_fields : (s : Bool) (g t : ℕ) → 0 < g → g < 2047 → narrowed (of_fields binary64 s g t) ≡ round binary32 s ((t + 4503599627370496) * 2 ^ (g - 1)) (2 ^ 1074)
narrowed_fields s g t l u = narrowed_val (of_fields binary64 s g t) s ((t + 4503599627370496) * 2 ^ (g - 1)) (2 ^ 1074) (pow_pos 1074) (fields_value s g t l u)

-- ---- the four ranges
pub digits_lt : (t : ℕ) → t < 4503599627370496 → t + 4503599627370496 < 9007199254740992
digits_lt t h = omega arith

pub digits_ge : (t : ℕ) → 4503599627370496 ≤ t + 4503599627370496
digits_ge t = omega arith

exp_normal : (g : ℕ) → 897 ≤ g → g - 1 + 178 ≡ g - 897 + 1074
exp_normal g h = omega arith

-- what `round` keeps, where the result is normal or overflows
pub rounds_normal : (s : Bool) (g t : ℕ) → t < 4503599627370496 → 897 ≤ g → g < 2047 → narrowed (of_fields binary64 s g t) ≡ units binary32 s (closest (t + 4503599627370496) (2 ^ 29)) (g - 897)
rounds_normal s g t H l u =
    narrowed_fields s g t (lt_of_lt_of_le (lit< tt) l) u
    ∙ round_dyadic binary32 s (t + 4503599627370496) (g - 1) 1074 (g - 897) 29 (exp_normal g l) (digits_lt t H) (inr (digits_ge t))

pub kept_ge : (m : ℕ) → 4503599627370496 ≤ m → 8388608 ≤ closest m (2 ^ 29)
kept_ge m h = le_trans ((le-div_iff_mul-le (pow_pos 29)).1 h) (nearest-ge (m / 2 ^ 29) (compare (m % 2 ^ 29 * 2) (2 ^ 29)))

step_lt : (g : ℕ) → 897 ≤ g → g < 1151 → suc (g - 897) ≤ 254
step_lt g l u = omega arith

pub at_normal : (s : Bool) (g t : ℕ) → t < 4503599627370496 → 897 ≤ g → g < 1151
    → of_bits binary32 (cond s 2147483648 0 + ((g - 897) * 8388608 + closest (t + 4503599627370496) (2 ^ 29))) ≡ narrowed (of_fields binary64 s g t)
at_normal s g t H l u =
    packed binary32 s (closest (t + 4503599627370496) (2 ^ 29)) (g - 897) (kept_le (t + 4503599627370496) 29 (digits_lt t H)) (inr (kept_ge (t + 4503599627370496) (digits_ge t))) (step_lt g l u)
    ∙ sym (rounds_normal s g t H l (lt_of_lt_of_le u (lit≤ tt)))

far : (g : ℕ) → 1151 ≤ g → 254 ≤ g - 897
far g h = omega arith

over : (q k : ℕ) → 8388608 ≤ q → 254 ≤ k → 2 ^ 277 ≤ q * 2 ^ k
over q k a b = le_trans (le_of_eq (pow-add 2 23 254)) (le_trans (mul-le-mul_right (2 ^ 254) a) (mul-le-mul_left q (pow_mono b)))

pub at_overflow : (s : Bool) (g t : ℕ) → t < 4503599627370496 → 1151 ≤ g → g < 2047 → of_bits binary32 (cond s 2147483648 0 + 2139095040) ≡ narrowed (of_fields binary64 s g t)
at_overflow s g t H l u =
    inf_bits binary32 s
    ∙ sym (rounds_normal s g t H (le_trans (lit≤ tt) l) u ∙ units_over binary32 s (closest (t + 4503599627370496) (2 ^ 29)) (g - 897) (over (closest (t + 4503599627370496) (2 ^ 29)) (g - 897) (kept_ge (t + 4503599627370496) (digits_ge t)) (far g l)))

-- an infinity: the field is all ones, and there is no NaN
at_ones : (s : Bool) (t : ℕ) → T (not (not (eqb t 0))) → narrowed (of_fields binary64 s 2047 t) ≡ inf s
unfolding of_fields narrowed
at_ones s zero n = refl
at_ones s (suc t) n = absurd (subst (λ (b : Bool). T (not (not b))) (eqb-suc-zero t) n)

pub at_inf : (s : Bool) (g t : ℕ) → t < 4503599627370496 → 1151 ≤ g → g < 2048 → T (not (eqb g 2047 && not (eqb t 0))) → of_bits binary32 (cond s 2147483648 0 + 2139095040) ≡ narrowed (of_fields binary64 s g t)
at_inf s g t H l u n = elim (eq-or-lt_of_le (le_of_suc-le-suc u)) [
  | inl e ↦ inf_bits binary32 s ∙ sym (ap (λ (x : ℕ). narrowed (of_fields binary64 s x t)) e ∙ at_ones s t (subst (λ (x : ℕ). T (not (eqb x 2047 && not (eqb t 0)))) e n))
  | inr k ↦ at_overflow s g t H l k
]

-- below the smallest normal f32: the places of the f32's smallest value and above stay
exp_low : (g : ℕ) → 0 < g → g < 897 → g - 1 + (149 + (926 - g)) ≡ 0 + 1074
exp_low g l u = omega arith

pub wide : (g : ℕ) → g < 897 → 53 ≤ 24 + (926 - g)
wide g u = omega arith

rounds_low : (s : Bool) (g t : ℕ) → t < 4503599627370496 → 0 < g → g < 897 → narrowed (of_fields binary64 s g t) ≡ units binary32 s (closest (t + 4503599627370496) (2 ^ (926 - g))) 0
rounds_low s g t H l u =
    narrowed_fields s g t l (lt_of_lt_of_le u (lit≤ tt))
    ∙ round_dyadic binary32 s (t + 4503599627370496) (g - 1) 1074 0 (926 - g) (exp_low g l u) (lt_of_lt_of_le (digits_lt t H) (pow_mono (wide g u))) (inl refl)

pub low_le : (g t : ℕ) → t < 4503599627370496 → g < 897 → closest (t + 4503599627370496) (2 ^ (926 - g)) ≤ 16777216
low_le g t H u = kept_le (t + 4503599627370496) (926 - g) (lt_of_lt_of_le (digits_lt t H) (pow_mono (wide g u)))

pub at_low : (s : Bool) (g t : ℕ) → t < 4503599627370496 → 0 < g → g < 897 → of_bits binary32 (cond s 2147483648 0 + closest (t + 4503599627370496) (2 ^ (926 - g))) ≡ narrowed (of_fields binary64 s g t)
at_low s g t H l u =
    let q = closest (t + 4503599627370496) (2 ^ (926 - g)) in
    ap (λ (x : ℕ). of_bits binary32 (cond s 2147483648 0 + x)) (sym (zero-add q))
    ∙ packed binary32 s q 0 (low_le g t H u) (inl refl) (lit≤ tt)
    ∙ sym (rounds_low s g t H l u)

-- so small that nothing stays
none : (x : ℕ) → x ≤ 0 → x ≡ 0
none x h = omega arith

pub quarter : (m h : ℕ) → m < 9007199254740992 → 55 ≤ h → closest m (2 ^ h) ≡ 0
quarter m h a b = none (closest m (2 ^ h)) (closest_mono m (2 ^ h) 1 4 (pow_pos h) (lit< tt) (le_trans (four m a) (le_trans (pow_mono b) (le_of_eq (sym (one-mul (2 ^ h)))))))
  where
    four : (x : ℕ) → x < 9007199254740992 → x * 4 ≤ 36028797018963968
    four x h = omega arith

zero_bits : (s : Bool) (m h : ℕ) → m < 9007199254740992 → 55 ≤ h → units binary32 s (closest m (2 ^ h)) 0 ≡ of_bits binary32 (cond s 2147483648 0 + 0)
zero_bits s m h a b = ap (λ (x : ℕ). units binary32 s x 0) (quarter m h a b) ∙ sym (packed binary32 s 0 0 (lit≤ tt) (inl refl) (lit≤ tt))

deep : (g : ℕ) → g < 872 → 55 ≤ 926 - g
deep g u = omega arith

pub at_zero : (s : Bool) (g t : ℕ) → t < 4503599627370496 → g < 872 → of_bits binary32 (cond s 2147483648 0 + 0) ≡ narrowed (of_fields binary64 s g t)
at_zero s zero t H u =
    sym
    (ap narrowed (subnormal s t)
    ∙ narrowed_odd s t 0
    ∙ round_dyadic binary32 s t 0 1074 0 925 refl (lt_of_lt_of_le H (lit≤ tt)) (inl refl)
    ∙ zero_bits s t 925 (lt_of_lt_of_le H (lit≤ tt)) (lit≤ tt))
at_zero s (suc g) t H u = sym (rounds_low s (suc g) t H (zero-lt-suc g) (lt_of_lt_of_le u (lit≤ tt)) ∙ zero_bits s (t + 4503599627370496) (926 - suc g) (digits_lt t H) (deep (suc g) u))
