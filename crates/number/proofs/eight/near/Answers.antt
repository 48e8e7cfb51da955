-- `number::eight::near` meets its contract: a pattern has 64 digits. Assumes nothing.
use Rattle.std.proofs.Common.{T, sym, subst, arith}
use lib.Ieee.{binary64}
use lib.Ieee.Bits.{to_bits-lt}
use Rattle.number.proofs.eight.near.Goals as goal

pub overflow_add-result : goal.overflow_add-result
overflow_add-result c = omega (arith, to_bits-lt binary64 c.args.x (subst T (sym c.well_formed.0.1) tt))
