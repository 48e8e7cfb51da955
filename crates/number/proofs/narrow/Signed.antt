-- A pattern taken apart into sign, exponent's field and digits, and an f32's pattern with an f64's sign put in front. Assumes nothing.
use Rattle.std.proofs.Common.{◌≡◌, ℕ, ◌+◌, ◌*◌, ◌/◌, ◌%◌, ◌<◌, ◌≤◌, Bool, true, false, cond, not, ◌&&◌, T, eqb, leb, sym, refl, subst, arith, leb→le}
use lib.Dec.{nleb→lt}
use lib.Arith.{le→nltb}
use lib.Ieee.{binary32, binary64, of_bits, of_fields, nan_bits}
use lib.Ieee.Bits.{nan_bits_above}

-- the exponent's field of an f64's pattern
abbrev pub field_of : ℕ → ℕ
field_of b = b % 9223372036854775808 / 4503599627370496

abbrev pub digits_of : ℕ → ℕ
digits_of b = b % 4503599627370496

pub apart : (b : ℕ) → of_bits binary64 b ≡ of_fields binary64 (leb 9223372036854775808 b) (field_of b) (digits_of b)
unfolding of_bits
apart b = refl

pub no_nan_fields : (b : ℕ) → T (not (nan_bits binary64 b)) → T (not (eqb (field_of b) 2047 && not (eqb (digits_of b) 0)))
unfolding nan_bits
no_nan_fields b h = h

pub sign_is : (b : ℕ) → b < 18446744073709551616 → b / 9223372036854775808 * 2147483648 ≡ cond (leb 9223372036854775808 b) 2147483648 0
sign_is b h = go (leb 9223372036854775808 b) (leb→le 9223372036854775808 b) (nleb→lt 9223372036854775808 b)
  where
    set : 9223372036854775808 ≤ b → b < 18446744073709551616 → b / 9223372036854775808 * 2147483648 ≡ 2147483648
    set l u = omega arith

    clear : b < 9223372036854775808 → b / 9223372036854775808 * 2147483648 ≡ 0
    clear u = omega arith

    go : (t : Bool) → (T t → 9223372036854775808 ≤ b) → (T (not t) → b < 9223372036854775808) → b / 9223372036854775808 * 2147483648 ≡ cond t 2147483648 0
    go true l u = set (l tt) h
    go false l u = clear (u tt)

-- up to the infinity's pattern, r is a number's, with any sign
pub signed_number : (s r : ℕ) → r ≤ 2139095040 → T (not (nan_bits binary32 (s * 2147483648 + r)))
signed_number s r h =
    let n = s * 2147483648 + r in
    subst (λ (x : Bool). T (not x)) (sym (nan_bits_above binary32 n)) (le→nltb 2139095040 (n % 2147483648) (rest s r h))
  where
    rest : (s r : ℕ) → r ≤ 2139095040 → (s * 2147483648 + r) % 2147483648 ≤ 2139095040
    rest s r h = omega arith
