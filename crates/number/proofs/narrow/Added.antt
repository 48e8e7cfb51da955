-- The f64 with the fields g and d, rounded by adding (Adding.antt), is the f32 that `Fields.antt` asks for. Assumes nothing.
use Rattle.std.proofs.Common.{◌≡◌, ℕ, suc, ◌+◌, ◌-◌, ◌*◌, ◌/◌, ◌%◌, ◌^◌, ◌<◌, ◌≤◌, Bool, false, cond, not, T, ◌⊎◌, sym, refl, ap, ◌∙◌, subst, inl, inr, le_trans, le_of_eq, lt_of_lt_of_le, lt_of_le_of_lt, mul-le-mul, zero-add, mul-one, arith, lit<, lit≤, pow_mono}
use lib.Ieee.{Float, nan, inf, fin, binary32, binary64, units, sub, add, fits, is_nan, of_fields, of_bits, to_bits}
use lib.Ieee.Bits.{to_bits-of_bits}
use lib.Ieee.Exact.{HasValue, odd_sign, units_val}
use lib.Ieee.Nearest.{closest}
use Rattle.number.specs.Narrow.{narrowed}
use Rattle.number.proofs.Pack.{packed, units_fits, split}
use Rattle.number.proofs.Adding.{kept_le, narrowed_by_adding}
use Rattle.number.proofs.narrow.Fields.{subnormal, quarter, digits_lt, digits_ge, one_below, wide, kept_ge, low_le, at_normal, at_low, at_zero}
use Rattle.number.proofs.narrow.Shift.{half_even}
use Rattle.number.proofs.narrow.Word.{word, of_word, normal_value, field_lt}

-- ---- what comes of it: q * 2 ^ k smallest values, with the pattern that stands for x narrowed
pub record Rounds (g d : ℕ) (t : Float) : Type 0 where
  pub q : ℕ
  pub k : ℕ
  pub is : t ≡ units binary32 false q k
  pub kept : q ≤ 16777216
  pub lead : (k ≡ 0) ⊎ (8388608 ≤ q)
  pub place : k ≤ 253
  pub under : q * 2 ^ k < 2 ^ 277
  pub narrows : (s : Bool) → of_bits binary32 (cond s 2147483648 0 + (k * 8388608 + q)) ≡ narrowed (of_fields binary64 s g d)

-- just below the overflow the last digit does not carry
near_top : (D : ℕ) → D < 9007198986305536 → closest D (2 ^ 29) ≤ 16777215
near_top D h = subst (λ (x : ℕ). x ≤ 16777215) (half_even D 268435456 (lit< tt)) (less D h)
  where
    less : (D : ℕ) → D < 9007198986305536 → (D + (268435456 - 1) + D / (268435456 * 2) % 2) / (268435456 * 2) ≤ 16777215
    less D h = omega arith

times : (q p b c : ℕ) → q ≤ b → p ≤ c → q * p ≤ b * c
times q p b c h k = mul-le-mul h k

sum_under : (g d : ℕ) → g < 2048 → d < 4503599627370496 → word g d < 5183643170835005440 → closest (d + 4503599627370496) (2 ^ 29) * 2 ^ (g - 897) < 2 ^ 277
sum_under g d G D m = go (split g 1150)
  where
    first : (g : ℕ) → g < 1150 → g - 897 ≤ 252
    first g h = omega arith

    last : (g d : ℕ) → 1150 ≤ g → word g d < 5183643170835005440 → d < 4503599627370496 → g < 2048 → d + 4503599627370496 < 9007198986305536
    last g d h m D u = omega arith

    place : (g d : ℕ) → word g d < 5183643170835005440 → g < 2048 → g - 897 ≤ 253
    place g d m u = omega arith

    go : (g < 1150) ⊎ (1150 ≤ g) → closest (d + 4503599627370496) (2 ^ 29) * 2 ^ (g - 897) < 2 ^ 277
    go (inl h) = lt_of_le_of_lt (times (closest (d + 4503599627370496) (2 ^ 29)) (2 ^ (g - 897)) 16777216 (2 ^ 252) (kept_le (d + 4503599627370496) 29 (digits_lt d D)) (pow_mono (first g h))) (lit< tt)
    go (inr h) = lt_of_le_of_lt (times (closest (d + 4503599627370496) (2 ^ 29)) (2 ^ (g - 897)) 16777215 (2 ^ 253) (near_top (d + 4503599627370496) (last g d h m D G)) (pow_mono (place g d m G))) (lit< tt)

module _ (g d : ℕ) (c : Float) (G : g < 2048) (D : d < 4503599627370496) (m : word g d < 5183643170835005440) (C : HasValue c false (4503599627370496 * 2 ^ (g - 897 + 925)) (2 ^ 1074)) where
  abbrev got : Float
  got = sub binary64 (add binary64 (of_bits binary64 (word g d)) c) c

  value : 0 < g → HasValue (of_bits binary64 (word g d)) false ((d + 4503599627370496) * 2 ^ (g - 1)) (2 ^ 1074)
  value p =
      subst (λ (z : ℕ). HasValue (of_bits binary64 (word g d)) false (z * 2 ^ (g - 1)) (2 ^ 1074)) (turned d)
      (subst (λ (z : ℕ). HasValue (of_bits binary64 (word z d)) false ((4503599627370496 + d) * 2 ^ (g - 1)) (2 ^ 1074)) (one_below g p)
      (normal_value (g - 1) d (lt_of_le_of_lt (le_of_eq (one_below g p)) (lt_of_lt_of_le (field_lt g d G m) (lit≤ tt))) D))
    where
      turned : (t : ℕ) → 4503599627370496 + t ≡ t + 4503599627370496
      turned t = omega arith

  some : 897 ≤ g → 0 < g
  some h = omega arith

  rounds_normal : 897 ≤ g → Rounds g d got
  rounds_normal l =
      record {
        q = closest (d + 4503599627370496) (2 ^ 29);
        k = g - 897;
        is = narrowed_by_adding (of_bits binary64 (word g d)) c (d + 4503599627370496) (g - 1) 29 (g - 897) (value (some l)) C (places g l) (digits_lt d D) (few g (field_lt g d G m)) (sum_under g d G D m);
        kept = kept_le (d + 4503599627370496) 29 (digits_lt d D);
        lead = inr (kept_ge (d + 4503599627370496) (digits_ge d));
        place = last g (field_lt g d G m);
        under = sum_under g d G D m;
        narrows = λ s. at_normal s g d D l (field_lt g d G m);
      }
    where
      places : (g : ℕ) → 897 ≤ g → g - 1 + 29 ≡ g - 897 + 925
      places g h = omega arith

      few : (g : ℕ) → g < 1151 → g - 897 ≤ 1000
      few g h = omega arith

      last : (g : ℕ) → g < 1151 → g - 897 ≤ 253
      last g h = omega arith

  none : (g : ℕ) → g < 897 → g - 897 ≡ 0
  none g h = omega arith

  low_c : g < 897 → HasValue c false (4503599627370496 * 2 ^ (0 + 925)) (2 ^ 1074)
  low_c u = subst (λ (z : ℕ). HasValue c false (4503599627370496 * 2 ^ (z + 925)) (2 ^ 1074)) (none g u) C

  low_under : (q : ℕ) → q ≤ 16777216 → q * 2 ^ 0 < 2 ^ 277
  low_under q h = lt_of_le_of_lt (le_of_eq (mul-one q)) (lt_of_le_of_lt h (lit< tt))

  rounds_low : 0 < g → g < 897 → Rounds g d got
  rounds_low p u =
      let h = 926 - g in
      let q = closest (d + 4503599627370496) (2 ^ h) in
      let Q : q ≤ 16777216 = low_le g d D u in
      record {
        q = q;
        k = 0;
        is = narrowed_by_adding (of_bits binary64 (word g d)) c (d + 4503599627370496) (g - 1) h 0 (value p) (low_c u) (places g p u) (lt_of_lt_of_le (digits_lt d D) (pow_mono (wide g u))) (lit≤ tt) (low_under q Q);
        kept = Q;
        lead = inl refl;
        place = lit≤ tt;
        under = low_under q Q;
        narrows = λ s. ap (λ (x : ℕ). of_bits binary32 (cond s 2147483648 0 + x)) (zero-add q) ∙ at_low s g d D p u;
      }
    where
      places : (g : ℕ) → 0 < g → g < 897 → g - 1 + (926 - g) ≡ 0 + 925
      places g p u = omega arith

  rounds_none : g ≡ 0 → Rounds g d got
  rounds_none z =
      let q = closest d (2 ^ 925) in
      let Z : q ≡ 0 = quarter d 925 (lt_of_lt_of_le D (lit≤ tt)) (lit≤ tt) in
      let Q : q ≤ 16777216 = le_trans (le_of_eq Z) (lit≤ tt) in
      let u : g < 897 = lt_of_le_of_lt (le_of_eq z) (lit< tt) in
      record {
        q = q;
        k = 0;
        is =
            narrowed_by_adding (of_bits binary64 (word g d)) c d 0 925 0
            (subst (λ (v : Float). HasValue v false (d * 2 ^ 0) (2 ^ 1074)) (sym (of_word g d G D ∙ ap (λ (x : ℕ). of_fields binary64 false x d) z ∙ subnormal false d)) (odd_sign 53 false d 0 1074))
            (low_c u) refl (lt_of_lt_of_le D (lit≤ tt)) (lit≤ tt) (low_under q Q);
        kept = Q;
        lead = inl refl;
        place = lit≤ tt;
        under = low_under q Q;
        narrows = λ s. ap (λ (x : ℕ). of_bits binary32 (cond s 2147483648 0 + x)) (zero-add q ∙ Z) ∙ at_zero s g d D (lt_of_le_of_lt (le_of_eq z) (lit< tt));
      }

  pub rounds : Rounds g d got
  rounds = go (split g 897) (split 0 g)
    where
      zero_of : (g : ℕ) → g ≤ 0 → g ≡ 0
      zero_of g h = omega arith

      go : (g < 897) ⊎ (897 ≤ g) → (0 < g) ⊎ (g ≤ 0) → Rounds g d got
      go (inr l) y = rounds_normal l
      go (inl u) (inl p) = rounds_low p u
      go (inl u) (inr z) = rounds_none (zero_of g z)

-- ---- what the machine is asked
pub not_nan : (v : Float) (s : Bool) (a c : ℕ) → HasValue v s a c → T (not (is_nan v))
unfolding is_nan
not_nan nan s a c h = absurd h
not_nan (inf t) s a c h = absurd h
not_nan (fin t m e) s a c h = tt

module _ (g d : ℕ) (t : Float) (R : Rounds g d t) where
  pub fits_32 : T (fits binary32 t)
  fits_32 = subst (λ (v : Float). T (fits binary32 v)) (sym R.is) (units_fits binary32 false R.q R.k R.kept)

  pub is_number : T (not (is_nan t))
  is_number = not_nan t false (R.q * 2 ^ R.k) (2 ^ 149) (subst (λ (v : Float). HasValue v false (R.q * 2 ^ R.k) (2 ^ 149)) (sym R.is) (units_val binary32 false R.q R.k R.under))

  pub pattern_le : R.k * 8388608 + R.q ≤ 2139095040
  pattern_le = small R.k R.q R.place R.kept
    where
      small : (k q : ℕ) → k ≤ 253 → q ≤ 16777216 → k * 8388608 + q ≤ 2139095040
      small k q h l = omega arith

  held : of_bits binary32 (R.k * 8388608 + R.q) ≡ t
  held = ap (of_bits binary32) (sym (zero-add (R.k * 8388608 + R.q))) ∙ packed binary32 false R.q R.k R.kept R.lead (up_to R.k R.place) ∙ sym R.is
    where
      up_to : (k : ℕ) → k ≤ 253 → suc k ≤ 254
      up_to k h = omega arith

  pub bits_are : to_bits binary32 t ≡ R.k * 8388608 + R.q
  bits_are =
      ap (to_bits binary32) (sym held)
      ∙ to_bits-of_bits binary32 (R.k * 8388608 + R.q) (lt_of_le_of_lt pattern_le (lit< tt)) (subst (λ (v : Float). T (not (is_nan v))) (sym held) is_number)
