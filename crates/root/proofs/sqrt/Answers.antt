-- `root::sqrt` meets its contract: x is read back from its bits, and each way out is a kind of pattern (`Patterns.antt`). Assumes nothing.
use mathlib.Core.Path.{◌≡◌, refl, sym, ap, ◌∙◌, subst}
use Prim.Native.Nat.{ℕ, ◌≤◌, ◌<◌}
use native.Mathlib.Omega.{arith}
use lib.Dec.{T}
use lib.Ieee.{Float, nan, binary32, div, fits, of_bits, to_bits}
use lib.Ieee.Bits.{of_bits-to_bits, to_bits-lt}
use native.Mathlib.Nat.{le_of_lt}
use Rattle.number.proofs.Nan.{is_the_nan, is_number, number_below}
use Rattle.root.specs.Root.{rooted}
use Rattle.root.proofs.Patterns.{at_negative, at_minus_zero, at_zero, at_top}
use Rattle.root.proofs.sqrt.Goals as goal
use Rattle.root.proofs.sqrt.Goals.{Start}

-- 0.0 / 0.0
quiet : div binary32 (of_bits binary32 0) (of_bits binary32 0) ≡ nan
unfolding div of_bits
quiet = refl

root-of-nan : rooted binary32 nan ≡ nan
unfolding rooted
root-of-nan = refl

held : (c : Start) → T (fits binary32 c.args.x)
held c = subst T (sym c.well_formed.0.1) tt

back : (c : Start) → of_bits binary32 (to_bits binary32 c.args.x) ≡ c.args.x
back c = of_bits-to_bits binary32 c.args.x (held c)

-- x is its own root where the pattern's number is
own : (x : Float) (b : ℕ) → of_bits binary32 b ≡ x → rooted binary32 (of_bits binary32 b) ≡ of_bits binary32 b → x ≡ rooted binary32 x
own x b e h = sym e ∙ sym h ∙ ap (rooted binary32) e

pub returns-then-x : goal.returns-then-x
returns-then-x c = quiet ∙ sym (ap (rooted binary32) (is_the_nan c.args.x c.if-x.true) ∙ root-of-nan)

pub float_to_bits-b : goal.float_to_bits-b
float_to_bits-b c = is_number c.args.x c.if-x.false

pub returns-then-b-gt2147483648 : goal.returns-then-b-gt2147483648
returns-then-b-gt2147483648 c =
    let x = c.args.x in
    quiet ∙ sym (ap (rooted binary32) (sym (back c.before.before)) ∙ at_negative (to_bits binary32 x) c.if-b-gt2147483648.true (to_bits-lt binary32 x (held c.before.before)))

pub returns-then-b : goal.returns-then-b
returns-then-b c =
    let b = to_bits binary32 c.args.x in
    own c.args.x b (back c.before.before.before) (subst (λ (n : ℕ). rooted binary32 (of_bits binary32 n) ≡ of_bits binary32 n) (sym c.if-b.true) at_minus_zero)

below : (b : ℕ) → b ≤ 2147483648 → (b ≡ 2147483648 → ⊥) → b < 2147483648
below b h n = omega arith

pub returns-then-b-ge2139095040 : goal.returns-then-b-ge2139095040
returns-then-b-ge2139095040 c =
    let b = to_bits binary32 c.args.x in
    own c.args.x b (back c.before.before.before.before) (at_top b c.if-b-ge2139095040.true (below b c.if-b-gt2147483648.false c.if-b.false))

pub returns-then-b-eq0 : goal.returns-then-b-eq0
returns-then-b-eq0 c =
    let b = to_bits binary32 c.args.x in
    own c.args.x b (back c.before.before.before.before.before) (subst (λ (n : ℕ). rooted binary32 (of_bits binary32 n) ≡ of_bits binary32 n) (sym c.if-b-eq0.true) at_zero)

pub float_from_bits-result : goal.float_from_bits-result
float_from_bits-result c = number_below binary32 c.root_bits.result (le_of_lt c.root_bits.ensures.0)

pub returns : goal.returns
returns c = c.root_bits.ensures.1 ∙ ap (rooted binary32) (back c.before.before.before.before.before.before)
