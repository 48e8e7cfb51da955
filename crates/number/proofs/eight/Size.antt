-- A number from 2 ^ -64 to 2 ^ 64 in size, by its pattern; such a number split (Splitting.antt) is it narrowed. Assumes nothing.
use Rattle.std.proofs.Common.{◌≡◌, ℕ, ◌+◌, ◌-◌, ◌*◌, ◌^◌, ◌<◌, ◌≤◌, Bool, false, not, ◌&&◌, T, ltb, leb, sym, ap, ◌∙◌, subst, lt_of_le_of_lt, mul_assoc, mul-le-mul, arith, lit<, ltb→lt, leb→le, pow_mono, pow-add}
use lib.Ieee.{Float, binary32, binary64, units, sub, mul, fits, is_nan, of_bits}
use lib.Ieee.Fits.{and_l, and_r, sub-fits, fits_widens}
use lib.Ieee.Exact.{HasValue, units_val}
use lib.Ieee.Nearest.{closest}
use Rattle.number.specs.Narrow.{narrowed}
use Rattle.number.proofs.Pack.{units_fits}
use Rattle.number.proofs.Adding.{finer, same_value, kept_le}
use Rattle.number.proofs.Splitting.{split_value}
use Rattle.number.proofs.narrow.Added.{not_nan}
use Rattle.number.proofs.narrow.Fields.{fields_value, digits_lt, digits_ge, rounds_normal}
use Rattle.number.proofs.narrow.Signed.{field_of, digits_of, apart}

pub bounds : (g : ℕ) → T (leb 959 g && ltb g 1087) → (959 ≤ g) × (g < 1087)
bounds g t = (leb→le 959 g (and_l (leb 959 g) (ltb g 1087) t), ltb→lt g 1087 (and_r (leb 959 g) (ltb g 1087) t))

-- ---- split
module _ (x c : Float) (b : ℕ) (B : of_bits binary64 b ≡ x) (C : HasValue c false 536870913 1) (l : 959 ≤ field_of b) (u : field_of b < 1087) where
  abbrev s : Bool
  s = leb 9223372036854775808 b

  abbrev g : ℕ
  g = field_of b

  abbrev d : ℕ
  d = digits_of b

  abbrev q : ℕ
  q = closest (d + 4503599627370496) (2 ^ 29)

  abbrev got : Float
  got = sub binary64 (mul binary64 x c) (sub binary64 (mul binary64 x c) x)

  digits : d < 4503599627370496
  digits = omega arith

  value : HasValue x s ((d + 4503599627370496) * 2 ^ (g - 1)) (2 ^ 1074)
  value = subst (λ (v : Float). HasValue v s ((d + 4503599627370496) * 2 ^ (g - 1)) (2 ^ 1074)) (sym (apart b) ∙ B) (fields_value s g d (omega (arith, l)) (omega (arith, u)))

  q_le : q ≤ 16777216
  q_le = kept_le (d + 4503599627370496) 29 (digits_lt d digits)

  under : q * 2 ^ (g - 897) < 2 ^ 277
  under = lt_of_le_of_lt (mul-le-mul q_le (pow_mono few)) (lit< tt)
    where
      few : g - 897 ≤ 252
      few = omega (arith, u)

  held : HasValue (units binary32 s q (g - 897)) s (q * 2 ^ (g - 1 + 29)) (2 ^ 1074)
  held =
      subst (λ (z : ℕ). HasValue (units binary32 s q (g - 897)) s z (2 ^ 1074)) (mul_assoc q (2 ^ (g - 897)) (2 ^ 925) ∙ ap (λ (z : ℕ). q * z) (sym (pow-add 2 (g - 897) 925) ∙ ap (λ (z : ℕ). 2 ^ z) places))
      (finer (units binary32 s q (g - 897)) s (q * 2 ^ (g - 897)) (2 ^ 149) (2 ^ 925) (units_val binary32 s q (g - 897) under))
    where
      places : g - 897 + 925 ≡ g - 1 + 29
      places = omega (arith, l)

  is : got ≡ units binary32 s q (g - 897)
  is =
      same_value binary64 s got (units binary32 s q (g - 897)) (q * 2 ^ (g - 1 + 29)) (sub-fits binary64 (mul binary64 x c) (sub binary64 (mul binary64 x c) x)) (fits_widens (units binary32 s q (g - 897)) (units_fits binary32 s q (g - 897) q_le))
      (split_value x c s (d + 4503599627370496) (g - 1) value C (digits_ge d) (digits_lt d digits) room) held
    where
      room : g - 1 ≤ 1900
      room = omega (arith, u)

  pub split_fits : T (fits binary32 got)
  split_fits = subst (λ (v : Float). T (fits binary32 v)) (sym is) (units_fits binary32 s q (g - 897) q_le)

  pub split_number : T (not (is_nan got))
  split_number = not_nan got s (q * 2 ^ (g - 897)) (2 ^ 149) (subst (λ (v : Float). HasValue v s (q * 2 ^ (g - 897)) (2 ^ 149)) (sym is) (units_val binary32 s q (g - 897) under))

  pub split_narrows : got ≡ narrowed x
  split_narrows = is ∙ sym (rounds_normal s g d digits (omega (arith, l)) (omega (arith, u))) ∙ ap narrowed (sym (apart b) ∙ B)
