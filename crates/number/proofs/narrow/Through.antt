-- An f64 narrowed by way of its bits: a NaN is told by x != x, and any other x is read back from them. Assumes nothing.
use Rattle.std.proofs.Common.{◌≡◌, Bool, true, false, not, T, sym, ap, ◌∙◌, subst}
use lib.Ieee.{Float, binary32, binary64, ne, is_nan, fits, nan_bits, of_bits, to_bits}
use lib.Ieee.Bits.{of_bits-to_bits, nan_bits_is}
use Rattle.number.specs.Narrow.{narrowed}
use Rattle.number.proofs.Nan.{is_the_nan, is_number, nan_f32}

pub number : (x : Float) → ne x x ≡ false → T (not (is_nan x))
number = is_number

pub nan_narrowed : (x : Float) → ne x x ≡ true → of_bits binary32 0x7fc0_0000 ≡ narrowed x
unfolding narrowed
nan_narrowed x h = nan_f32 ∙ ap narrowed (sym (is_the_nan x h))

read_back : (x : Float) → fits binary64 x ≡ true → of_bits binary64 (to_bits binary64 x) ≡ x
read_back x F = of_bits-to_bits binary64 x (subst T (sym F) tt)

pub number_bits : (x : Float) → ne x x ≡ false → fits binary64 x ≡ true → T (not (nan_bits binary64 (to_bits binary64 x)))
number_bits x h F = subst (λ (b : Bool). T (not b)) (sym (nan_bits_is binary64 (to_bits binary64 x) ∙ ap is_nan (read_back x F))) (is_number x h)

pub same_narrowed : (x : Float) → fits binary64 x ≡ true → narrowed (of_bits binary64 (to_bits binary64 x)) ≡ narrowed x
same_narrowed x F = ap narrowed (read_back x F)

pub ruleset laws = (number, nan_narrowed, number_bits, same_narrowed)
