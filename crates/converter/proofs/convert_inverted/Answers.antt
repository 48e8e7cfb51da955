-- `converter::convert_inverted` meets its contract: divided by -127.5, Q is negated. Assumes nothing.
use Prim.Native.Nat.{ℕ, ◌<◌}
use native.Mathlib.Omega.{arith}
use mathlib.Core.Path.{◌∙◌}
use lib.ListN.{get_or}
use Rattle.converter.specs.Convert.{divided_by, in_pairs, inverted}
use Rattle.converter.proofs.Accepted.{same_converted}
use Rattle.converter.proofs.Negated.{minus, negated_pairs}
use Rattle.converter.proofs.convert_inverted.Goals as goal

pub returns : goal.returns
returns c =
    let src = c.args.src.now in
    let byte : (i : ℕ) → get_or src i 0 < 256 = λ i. omega (arith, c.type_inv.src i) in
    c.convert_by.ensures ∙ same_converted (in_pairs (divided_by minus)) inverted src c.args.dst.now (λ even. negated_pairs src byte)
