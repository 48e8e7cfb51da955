-- Which values are NaN: what the test x != x says, that a pattern up to the infinity's is a number's, and that a sum which is a number has no NaN part. Assumes nothing.
use Rattle.std.proofs.Common.{◌≡◌, ℕ, ◌*◌, ◌%◌, ◌≤◌, Bool, true, false, not, T, sym, refl, ap, subst, le_trans, ◌∙◌}
use native.Mathlib.Nat.{mod-le}
use lib.Arith.{le→nltb}
use lib.Ieee.{Float, nan, inf, fin, Format, binary32, binary64, of_bits, ones, hid, top, add, ne, is_nan, nan_bits}
use lib.Ieee.Bits.{nan_bits_above}
use lib.Ieee.Compare.{differs_from_itself}
use Rattle.number.specs.Eight.{sum_of}

pub is_the_nan : (x : Float) → ne x x ≡ true → x ≡ nan
is_the_nan x h = differs_from_itself x (subst T (sym h) tt)

pub told_nan : (x : Float) → ne x x ≡ true → is_nan x ≡ true
unfolding is_nan
told_nan x h = ap is_nan (is_the_nan x h)

pub told_number : (x : Float) → ne x x ≡ false → is_nan x ≡ false
unfolding ne is_nan
told_number nan h = h
told_number (inf s) h = refl
told_number (fin s m e) h = refl

pub is_number : (x : Float) → ne x x ≡ false → T (not (is_nan x))
is_number x h = subst (λ (b : Bool). T (not b)) (sym (told_number x h)) tt

-- x != x asks whether x is NaN
pub differs_is_nan : (x : Float) → ne x x ≡ is_nan x
differs_is_nan x = go (ne x x) refl
  where
    go : (b : Bool) → ne x x ≡ b → ne x x ≡ is_nan x
    go true h = h ∙ sym (told_nan x h)
    go false h = h ∙ sym (told_number x h)

-- Rust's constants
pub nan_f32 : of_bits binary32 0x7fc0_0000 ≡ nan
unfolding of_bits
nan_f32 = refl

pub nan_f64 : of_bits binary64 0x7ff8_0000_0000_0000 ≡ nan
unfolding of_bits
nan_f64 = refl

pub infinity_f64 : of_bits binary64 0x7ff0_0000_0000_0000 ≡ inf false
unfolding of_bits
infinity_f64 = refl

pub number_below : (f : Format) (n : ℕ) → n ≤ ones f * hid f → T (not (nan_bits f n))
number_below f n h = subst (λ (b : Bool). T (not b)) (sym (nan_bits_above f n)) (le→nltb (ones f * hid f) (n % top f) (le_trans (mod-le n (top f)) h))

-- ---- a sum that is a number, in either format
summed : (f : Format) (x y : Float) → T (not (is_nan (add f x y))) → T (not (is_nan x)) × T (not (is_nan y))
unfolding add is_nan
summed f nan y h = absurd h
summed f (inf s) nan h = absurd h
summed f (inf s) (inf t) h = (tt, tt)
summed f (inf s) (fin t n d) h = (tt, tt)
summed f (fin s m e) nan h = absurd h
summed f (fin s m e) (inf t) h = (tt, tt)
summed f (fin s m e) (fin t n d) h = (tt, tt)

summed_four : (f : Format) (x y z w : Float) → T (not (is_nan (add f (add f x y) (add f z w)))) → (T (not (is_nan x)) × T (not (is_nan y))) × (T (not (is_nan z)) × T (not (is_nan w)))
summed_four f x y z w h = let b = summed f (add f x y) (add f z w) h in (summed f x y b.0, summed f z w b.1)

pub record Numbers (x0 x1 x2 x3 x4 x5 x6 x7 : Float) : Type 0 where
  pub n0 : T (not (is_nan x0))
  pub n1 : T (not (is_nan x1))
  pub n2 : T (not (is_nan x2))
  pub n3 : T (not (is_nan x3))
  pub n4 : T (not (is_nan x4))
  pub n5 : T (not (is_nan x5))
  pub n6 : T (not (is_nan x6))
  pub n7 : T (not (is_nan x7))

pub numbers : (f : Format) (x0 x1 x2 x3 x4 x5 x6 x7 : Float) → T (not (is_nan (sum_of f x0 x1 x2 x3 x4 x5 x6 x7))) → Numbers x0 x1 x2 x3 x4 x5 x6 x7
numbers f x0 x1 x2 x3 x4 x5 x6 x7 h =
    let b = summed f (add f (add f x0 x2) (add f x4 x6)) (add f (add f x1 x3) (add f x5 x7)) h in
    let l = summed_four f x0 x2 x4 x6 b.0 in
    let r = summed_four f x1 x3 x5 x7 b.1 in
    record { n0 = l.0.0; n1 = r.0.0; n2 = l.0.1; n3 = r.0.1; n4 = l.1.0; n5 = r.1.0; n6 = l.1.1; n7 = r.1.1 }
