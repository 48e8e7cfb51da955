-- A whole pattern rounded at once: the field goes along as an even multiple, and a carry goes into it. Assumes nothing.
use Rattle.std.proofs.Common.{◌≡◌, ℕ, ◌+◌, ◌-◌, ◌*◌, ◌/◌, ◌%◌, ◌^◌, ◌<◌, ◌≤◌, cond, leb, sym, ap, ◌∙◌, subst, arith, lit<, pow_pos}
use lib.Ieee.{binary32, binary64, of_bits}
use lib.Ieee.Nearest.{closest}
use Rattle.number.specs.Narrow.{narrowed}
use Rattle.number.proofs.Adding.{closest_more}
use Rattle.number.proofs.narrow.Fields.{at_normal}
use Rattle.number.proofs.narrow.Shift.{half_even}
use Rattle.number.proofs.narrow.Signed.{field_of, digits_of, apart, sign_is}

-- the field g in front of the digits d, and the leading digit in front of them
pub field_along : (g d : ℕ) → closest (d + 2 * (g * 4194304) * 536870912) (2 ^ 29) ≡ g * 8388608 + closest d (2 ^ 29)
field_along g d = closest_more d (g * 4194304) (2 ^ 29) (pow_pos 29) ∙ ap (λ (x : ℕ). x + closest d (2 ^ 29)) (twice g)
  where
    twice : (g : ℕ) → 2 * (g * 4194304) ≡ g * 8388608
    twice g = omega arith

-- the pattern without the sign
pub pattern_is : (b : ℕ) → 4039728865751334912 ≤ b % 9223372036854775808
    → closest (b % 9223372036854775808) (2 ^ 29) - 7516192768 ≡ (field_of b - 897) * 8388608 + closest (digits_of b + 4503599627370496) (2 ^ 29)
pattern_is b l =
    off (field_of b) (closest (b % 9223372036854775808) (2 ^ 29)) (closest (digits_of b + 4503599627370496) (2 ^ 29)) (closest (digits_of b) (2 ^ 29)) (field b l)
    (ap (λ (x : ℕ). closest x (2 ^ 29)) (whole b) ∙ field_along (field_of b) (digits_of b))
    (field_along 1 (digits_of b))
  where
    whole : (b : ℕ) → b % 9223372036854775808 ≡ digits_of b + 2 * (field_of b * 4194304) * 536870912
    whole b = omega arith

    field : (b : ℕ) → 4039728865751334912 ≤ b % 9223372036854775808 → 897 ≤ field_of b
    field b l = omega arith

    off : (g x y z : ℕ) → 897 ≤ g → x ≡ g * 8388608 + z → y ≡ 8388608 + z → x - 7516192768 ≡ (g - 897) * 8388608 + y
    off g x y z l e k = omega arith

kept_ge : (m : ℕ) → 4039728865751334912 ≤ m → 7516192768 ≤ closest m (2 ^ 29)
kept_ge m h = subst (λ (x : ℕ). 7516192768 ≤ x) (half_even m 268435456 (lit< tt)) (more m h)
  where
    more : (m : ℕ) → 4039728865751334912 ≤ m → 7516192768 ≤ (m + 268435455 + m / 536870912 % 2) / 536870912
    more m h = omega arith

kept_le : (m : ℕ) → m < 5183643170835005440 → closest m (2 ^ 29) ≤ 9655287808
kept_le m h = subst (λ (x : ℕ). x ≤ 9655287808) (half_even m 268435456 (lit< tt)) (less m h)
  where
    bit : (q : ℕ) → q % 2 ≤ 1
    bit q = omega arith

    less : (m : ℕ) → m < 5183643170835005440 → (m + 268435455 + m / 536870912 % 2) / 536870912 ≤ 9655287808
    less m h = omega (arith, bit (m / 536870912))

module _ (b : ℕ) (B : b < 18446744073709551616) (l : 4039728865751334912 ≤ b % 9223372036854775808) (u : b % 9223372036854775808 < 5183643170835005440) where
  -- the pattern without the sign
  abbrev rest : ℕ
  rest = closest (b % 9223372036854775808) (2 ^ 29) - 7516192768

  pub enough : 7516192768 ≤ closest (b % 9223372036854775808) (2 ^ 29)
  enough = kept_ge (b % 9223372036854775808) l

  pub small : rest ≤ 2139095040
  small = omega (arith, kept_le (b % 9223372036854775808) u)

  pub out_is : of_bits binary32 (b / 9223372036854775808 * 2147483648 + rest) ≡ narrowed (of_bits binary64 b)
  out_is =
      let s = leb 9223372036854775808 b in
      ap (of_bits binary32) (ap (λ (x : ℕ). x + rest) (sign_is b B) ∙ ap (λ (x : ℕ). cond s 2147483648 0 + x) (pattern_is b l))
      ∙ at_normal s (field_of b) (digits_of b) (digits b) (field (b % 9223372036854775808) l) (top (b % 9223372036854775808) u)
      ∙ sym (ap narrowed (apart b))
    where
      digits : (b : ℕ) → b % 4503599627370496 < 4503599627370496
      digits b = omega arith

      field : (m : ℕ) → 4039728865751334912 ≤ m → 897 ≤ m / 4503599627370496
      field m l = omega arith

      top : (m : ℕ) → m < 5183643170835005440 → m / 4503599627370496 < 1151
      top m u = omega arith
