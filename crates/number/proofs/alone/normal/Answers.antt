-- `number::alone::normal` meets its contract (`Whole.antt`). Assumes nothing.
use Rattle.std.proofs.Common.{ℕ, ◌+◌, ◌-◌, ◌*◌, ◌/◌, ◌≤◌, sym, ap, ◌∙◌, subst}
use lib.Ieee.{binary32, of_bits}
use Rattle.number.proofs.narrow.Signed.{signed_number}
use Rattle.number.proofs.alone.Whole.{small, out_is}
use Rattle.number.proofs.alone.normal.Goals as goal

-- what the pattern without the sign is at most
rest_le : (c : goal.After-rounded) → c.rounded.result - 7516192768 ≤ 2139095040
rest_le c =
    subst (λ (x : ℕ). x - 7516192768 ≤ 2139095040) (sym c.rounded.ensures) (small c.args.b c.ranges.b.fits c.requires.0 c.requires.1)

pub returns : goal.returns
returns c =
    let b = c.args.b in (
      signed_number (b / 9223372036854775808) (c.rounded.result - 7516192768) (rest_le c),
      ap (λ (x : ℕ). of_bits binary32 (b / 9223372036854775808 * 2147483648 + (x - 7516192768))) c.rounded.ensures ∙ out_is b c.ranges.b.fits c.requires.0 c.requires.1,
    )
