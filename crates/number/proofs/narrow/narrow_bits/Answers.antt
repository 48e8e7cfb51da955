-- `number::narrow::narrow_bits` meets its contract: the parts of b are those that `of_bits` reads. Assumes nothing.
use Rattle.std.proofs.Common.{ℕ, ◌+◌, ◌/◌, leb, sym, ap, ◌∙◌, mod-lt, pow_pos, rules}
use lib.Ieee.{binary32, of_bits}
use Rattle.number.specs.Narrow.{narrowed}
use Rattle.number.proofs.narrow.Signed.{apart, no_nan_fields, sign_is, signed_number}
use Rattle.number.proofs.narrow.narrow_bits.Goals as goal

pub magnitude-requires : goal.magnitude-requires
magnitude-requires c = let b = c.args.b in (search rules, mod-lt b (pow_pos 52), no_nan_fields b c.requires)

pub returns : goal.returns
returns c =
    let b = c.args.b in
    let r = c.magnitude.result in (
      signed_number (b / 9223372036854775808) r c.magnitude.ensures.0,
      ap (λ (x : ℕ). of_bits binary32 (x + r)) (sign_is b c.ranges.b.fits) ∙ c.magnitude.ensures.1 (leb 9223372036854775808 b) ∙ sym (ap narrowed (apart b)),
    )
