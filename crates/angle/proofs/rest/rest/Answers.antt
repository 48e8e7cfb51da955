-- `angle::rest::rest` meets its contract: by its bits x is finite or not, below 4 or a number of parts (`Turns.antt`). Assumes nothing.
use Rattle.std.proofs.Common.{ℕ, true, false, T, pos, negsuc, sym, ap, ◌∙◌, subst}
use lib.Ieee.{fin, binary64, div, neg, of_bits, to_bits, mul, of_int}
use lib.Ieee.Bits.{of_bits-to_bits}
use Rattle.angle.proofs.rest.Turns.{below_four, from_four, not_finite_rest, finite_number, finite_field, sign_set, sign_clear}
use Rattle.angle.proofs.rest.rest.Goals as goal

pub returns-then-not-finite : goal.returns-then-not-finite
unfolding div of_bits
returns-then-not-finite c = not_finite_rest c.args.x (sym c.finite.ensures ∙ c.if-not-finite.true)

pub float_to_bits-b : goal.float_to_bits-b
float_to_bits-b c = finite_number c.args.x (sym c.finite.ensures ∙ c.if-not-finite.false)

pub returns-then-g-lt-FOUR : goal.returns-then-g-lt-FOUR
returns-then-g-lt-FOUR c =
    let F = subst T (sym c.well_formed.0.1) tt in
    below_four c.args.x (to_bits binary64 c.args.x) F (of_bits-to_bits binary64 c.args.x F) c.if-g-lt-FOUR.true

pub returns-then-b-ge9223372036854775808 : goal.returns-then-b-ge9223372036854775808
unfolding neg of_bits
returns-then-b-ge9223372036854775808 c =
    let b = to_bits binary64 c.args.x in
    let B = of_bits-to_bits binary64 c.args.x (subst T (sym c.well_formed.0.1) tt) in
    let u = finite_field c.args.x b B (sym c.finite.ensures ∙ c.if-not-finite.false) in
    ap (λ (r : ℕ). mul binary64 (of_int binary64 (pos r)) (fin true 1 (negsuc 49))) c.doubled-r.ensures
    ∙ from_four c.args.x b true B c.if-g-lt-FOUR.false u (sign_set b c.if-b-ge9223372036854775808.true)

pub returns : goal.returns
unfolding of_bits
returns c =
    let b = to_bits binary64 c.args.x in
    let B = of_bits-to_bits binary64 c.args.x (subst T (sym c.well_formed.0.1) tt) in
    let u = finite_field c.args.x b B (sym c.finite.ensures ∙ c.if-not-finite.false) in
    ap (λ (r : ℕ). mul binary64 (of_int binary64 (pos r)) (fin false 1 (negsuc 49))) c.doubled-r.ensures
    ∙ from_four c.args.x b false B c.if-g-lt-FOUR.false u (sign_clear b c.if-b-ge9223372036854775808.false)
