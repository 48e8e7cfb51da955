-- What the bit tests and the comparisons with the infinities say, whatever the width. Assumes nothing.
use Rattle.std.proofs.Common.{◌≡◌, ℕ, zero, suc, ◌+◌, ◌/◌, ◌%◌, ◌<◌, Bool, true, false, cond, not, ◌&&◌, T, eqb, leb, sym, refl, ap, ◌∙◌, subst, mod-lt, lit<}
use native.Mathlib.Nat.{mod-mod}
use lib.Arith.{lt→nleb}
use lib.Pow.{mod-mod-pow}
use lib.Ieee.{Float, Format, binary32, binary64, top, hid, ones, prec, low, odd, inf, nan, fin, lt, ne, is_nan, fits, nan_bits, of_fields, of_bits, to_bits}
use lib.Ieee.Bits.{of_bits-to_bits, is_false, nan_bits_is}
use lib.Ieee.Scale.{finite}
use Rattle.std.specs.Float.{is_sign_negative}
use Rattle.number.proofs.Nan.{is_the_nan, is_number}
use Rattle.number.specs.Kinds.{absolute, negative}

-- ---- finite: between the two infinities
between : (x : Float) → (lt (inf true) x && lt x (inf false)) ≡ finite x
unfolding lt
between nan = refl
between (inf true) = refl
between (inf false) = refl
between (fin s m e) = refl

pub between_f32 : (x : Float) → (lt (of_bits binary32 0xff80_0000) x && lt x (of_bits binary32 0x7f80_0000)) ≡ finite x
unfolding of_bits
between_f32 x = between x

pub between_f64 : (x : Float) → (lt (of_bits binary64 0xfff0_0000_0000_0000) x && lt x (of_bits binary64 0x7ff0_0000_0000_0000)) ≡ finite x
unfolding of_bits
between_f64 x = between x

-- ---- the sign, as std has it of a number
pub same_sign : (x : Float) → is_sign_negative x ≡ negative x
unfolding is_sign_negative negative
same_sign nan = refl
same_sign (inf s) = refl
same_sign (fin s m e) = refl

-- ---- the pattern without the highest bit is the number without its sign
clear_odd : (d : ℕ) (s : Bool) (q k l : ℕ) → odd d false q k l ≡ absolute (odd d s q k l)
unfolding odd absolute
clear_odd d s zero k l = refl
clear_odd d s (suc q) k l = refl

clear_fields : (f : Format) (s : Bool) (x t : ℕ) → of_fields f false x t ≡ absolute (of_fields f s x t)
unfolding of_fields absolute
clear_fields f s zero t = clear_odd (prec f) s t 0 (low f)
clear_fields f s (suc x) t = go (eqb (suc x) (ones f)) (eqb t 0)
  where
    go : (b c : Bool) → cond b (cond c (inf false) nan) (odd (prec f) false (hid f + t) x (low f)) ≡ absolute (cond b (cond c (inf s) nan) (odd (prec f) s (hid f + t) x (low f)))
    go true true = refl
    go true false = refl
    go false c = clear_odd (prec f) s (hid f + t) x (low f)

top_pos : (f : Format) → 0 < top f
top_pos binary32 = lit< tt
top_pos binary64 = lit< tt

digits_stay : (f : Format) (n : ℕ) → n % top f % hid f ≡ n % hid f
digits_stay binary32 n = mod-mod-pow n 8 23
digits_stay binary64 n = mod-mod-pow n 11 52

clear_bits : (f : Format) (n : ℕ) → of_bits f (n % top f) ≡ absolute (of_bits f n)
unfolding of_bits
clear_bits f n =
    ap (λ (t : Bool). of_fields f t (n % top f % top f / hid f) (n % top f % hid f)) (is_false (leb (top f) (n % top f)) (lt→nleb (top f) (n % top f) (mod-lt n (top_pos f))))
    ∙ ap (λ (x : ℕ). of_fields f false (x / hid f) (n % top f % hid f)) (mod-mod n (top f))
    ∙ ap (λ (x : ℕ). of_fields f false (n % top f / hid f) x) (digits_stay f n)
    ∙ clear_fields f (leb (top f) n) (n % top f / hid f) (n % hid f)

pub magnitude_is_rest : (f : Format) (x : Float) → fits f x ≡ true → of_bits f (to_bits f x % top f) ≡ absolute x
magnitude_is_rest f x F = clear_bits f (to_bits f x) ∙ ap absolute (of_bits-to_bits f x (subst T (sym F) tt))

absolute_number : (x : Float) → T (not (is_nan x)) → T (not (is_nan (absolute x)))
unfolding is_nan absolute
absolute_number nan h = h
absolute_number (inf s) h = tt
absolute_number (fin s m e) h = tt

pub rest_is_number : (f : Format) (x : Float) → ne x x ≡ false → fits f x ≡ true → T (not (nan_bits f (to_bits f x % top f)))
rest_is_number f x h F = subst (λ (b : Bool). T (not b)) (sym (nan_bits_is f (to_bits f x % top f) ∙ ap is_nan (magnitude_is_rest f x F))) (absolute_number x (is_number x h))

-- ---- NaN
pub magnitude_of_nan : (x : Float) → ne x x ≡ true → x ≡ absolute x
unfolding absolute
magnitude_of_nan x h = let e = is_the_nan x h in e ∙ ap absolute (sym e)

pub sign_of_nan : (x : Float) → ne x x ≡ true → false ≡ negative x
unfolding negative
sign_of_nan x h = ap negative (sym (is_the_nan x h))

pub number : (x : Float) → ne x x ≡ false → T (not (is_nan x))
number = is_number

-- ---- all that the answers at either width come to
pub ruleset laws = (between_f32, between_f64, same_sign, sign_of_nan, magnitude_of_nan, magnitude_is_rest, rest_is_number, number)
