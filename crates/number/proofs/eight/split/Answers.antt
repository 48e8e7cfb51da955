-- `number::eight::split` meets its contract (`Size.antt`). Assumes nothing.
use Rattle.std.proofs.Common.{true, ◌≡◌, ℕ, ◌/◌, ◌%◌, ◌<◌, ◌≤◌, false, not, ◌&&◌, T, sym, refl, subst}
use lib.Ieee.{Float, binary32, binary64, of_bits, to_bits, fits, is_nan, sub, mul}
use lib.Ieee.Bits.{of_bits-to_bits}
use lib.Ieee.Exact.{HasValue}
use lib.Ieee.Fits.{and_i}
use Rattle.number.specs.Narrow.{narrowed}
use Rattle.number.specs.Eight.{is_near}
use Rattle.number.proofs.eight.Size.{bounds, split_fits, split_number, split_narrows}
use Rattle.number.proofs.eight.split.Goals as goal

abbrev factor : Float
factor = of_bits binary64 4737786808002150400

factor-is : HasValue factor false 536870913 1
unfolding of_bits
factor-is = (refl, refl)

module _ (x : Float) (F : T (fits binary64 x)) (n : is_near x ≡ true) where
  abbrev b : ℕ
  b = to_bits binary64 x

  near : (959 ≤ b % 9223372036854775808 / 4503599627370496) × (b % 9223372036854775808 / 4503599627370496 < 1087)
  near = bounds (b % 9223372036854775808 / 4503599627370496) (subst T (sym n) tt)

  held : of_bits binary64 b ≡ x
  held = of_bits-to_bits binary64 x F

  abbrev got : Float
  got = sub binary64 (mul binary64 x factor) (sub binary64 (mul binary64 x factor) x)

  fitting : T (fits binary32 got && not (is_nan got))
  fitting = and_i (fits binary32 got) (not (is_nan got)) (split_fits x factor b held factor-is near.0 near.1) (split_number x factor b held factor-is near.0 near.1)

  narrows : got ≡ narrowed x
  narrows = split_narrows x factor b held factor-is near.0 near.1

pub float_to_float-result : goal.float_to_float-result
float_to_float-result c = fitting c.args.x (subst T (sym c.well_formed.0.1) tt) c.requires

pub returns : goal.returns
returns c = narrows c.args.x (subst T (sym c.well_formed.0.1) tt) c.requires
