-- `number::whole::whole` meets its contract: the machine's cast in its range, and `Range.antt` out of it. Assumes nothing.
use Rattle.std.proofs.Common.{T, sym, subst}
use lib.Ieee.{of_bits, neg}
use Rattle.number.proofs.Nan.{is_the_nan}
use Rattle.number.proofs.whole.Range.{whole_below, whole_nan, whole_above}
use Rattle.number.proofs.whole.whole.Goals as goal

pub truncating_f32_to_u64-requires-clause-lower_bound : goal.truncating_f32_to_u64-requires-clause-lower_bound
unfolding of_bits neg
truncating_f32_to_u64-requires-clause-lower_bound c = subst T (sym c.if-x-2.true) tt

pub truncating_f32_to_u64-requires-clause-upper_bound : goal.truncating_f32_to_u64-requires-clause-upper_bound
unfolding of_bits neg
truncating_f32_to_u64-requires-clause-upper_bound c = subst T (sym c.if-x.true) tt

pub returns-then-x : goal.returns-then-x
unfolding of_bits neg
returns-then-x c = whole_below c.args.x c.if-x.true c.if-x-2.false

pub returns-then-x-3 : goal.returns-then-x-3
returns-then-x-3 c = let x = c.args.x in whole_nan x (is_the_nan x c.if-x-3.true)

pub returns : goal.returns
unfolding of_bits
returns c = whole_above c.args.x c.if-x.false c.if-x-3.false
