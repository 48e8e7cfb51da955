-- The f64 pattern with the fields g and d, and the value that it stands for. Assumes nothing.
use Rattle.std.proofs.Common.{◌≡◌, ℕ, suc, ◌+◌, ◌-◌, ◌*◌, ◌/◌, ◌%◌, ◌^◌, ◌<◌, Bool, false, T, leb, sym, ap, ◌∙◌, subst, lt_of_lt_of_le, not-le_of_lt, arith, lit<, lit≤, leb→le}
use lib.Dec.{not_T}
use lib.Ieee.{Float, binary64, of_fields, of_bits}
use lib.Ieee.Bits.{is_false}
use lib.Ieee.Exact.{HasValue, odd_sign}
use Rattle.number.proofs.narrow.Fields.{normal}

abbrev pub word : ℕ → ℕ → ℕ
word g d = g * 4503599627370496 + d

pub of_word : (g d : ℕ) → g < 2048 → d < 4503599627370496 → of_bits binary64 (word g d) ≡ of_fields binary64 false g d
unfolding of_bits
of_word g d G D =
    ap (λ (s : Bool). of_fields binary64 s (word g d % 9223372036854775808 / 4503599627370496) (word g d % 4503599627370496))
    (is_false (leb 9223372036854775808 (word g d)) (not_T (leb 9223372036854775808 (word g d)) (λ (t : T (leb 9223372036854775808 (word g d))). not-le_of_lt (plus g d G D) (leb→le 9223372036854775808 (word g d) t))))
    ∙ ap (λ (x : ℕ). of_fields binary64 false x (word g d % 4503599627370496)) (exponent g d G D)
    ∙ ap (λ (x : ℕ). of_fields binary64 false g x) (digits g d G D)
  where
    plus : (g d : ℕ) → g < 2048 → d < 4503599627370496 → word g d < 9223372036854775808
    plus g d G D = omega arith

    exponent : (g d : ℕ) → g < 2048 → d < 4503599627370496 → word g d % 9223372036854775808 / 4503599627370496 ≡ g
    exponent g d G D = omega arith

    digits : (g d : ℕ) → g < 2048 → d < 4503599627370496 → word g d % 4503599627370496 ≡ d
    digits g d G D = omega arith

pub normal_value : (x d : ℕ) → suc x < 2047 → d < 4503599627370496 → HasValue (of_bits binary64 (word (suc x) d)) false ((4503599627370496 + d) * 2 ^ x) (2 ^ 1074)
normal_value x d G D =
    subst (λ (v : Float). HasValue v false ((4503599627370496 + d) * 2 ^ x) (2 ^ 1074)) (sym (of_word (suc x) d (lt_of_lt_of_le G (lit≤ tt)) D ∙ normal false x d G)) (odd_sign 53 false (4503599627370496 + d) x 1074)

-- what is added
pub place_value : (g e : ℕ) → g < 1151 → e ≡ g - 897 + 926 → HasValue (of_bits binary64 (e * 4503599627370496)) false (4503599627370496 * 2 ^ (g - 897 + 925)) (2 ^ 1074)
place_value g e G h =
    subst (λ (z : ℕ). HasValue (of_bits binary64 z) false (4503599627370496 * 2 ^ (g - 897 + 925)) (2 ^ 1074)) (same g e h) (normal_value (g - 897 + 925) 0 (few g G) (lit< tt))
  where
    few : (g : ℕ) → g < 1151 → suc (g - 897 + 925) < 2047
    few g h = omega arith

    same : (g e : ℕ) → e ≡ g - 897 + 926 → suc (g - 897 + 925) * 4503599627370496 + 0 ≡ e * 4503599627370496
    same g e h = omega arith

pub field_lt : (g d : ℕ) → g < 2048 → word g d < 5183643170835005440 → g < 1151
field_lt g d G m = omega arith
