-- `number::eight::narrow` meets its contract (`Eights.antt`). Assumes nothing.
use Rattle.std.proofs.Common.{rules, ◌≡◌, ℕ, ◌≤◌, Bool, true, false, sym, ap, ◌∙◌, List, length, take, arith, lit<}
use lib.Ieee.{Float, nan}
use lib.Seq.{take_all}
use Rattle.std.specs.List.{list_all}
use Rattle.number.specs.Narrow.{narrowed}
use Rattle.number.specs.Eight.{is_near}
use Rattle.number.proofs.Eights.{is_number, eight_where_near, none_where_far, none_where_nan, serves_each, maps_each}
use Rattle.number.proofs.eight.narrow.Goals as goal

-- what is said of those so far, after the last
of-all : (p : Float → Bool) (xs : List Float) (i : ℕ) (b : Bool) → length xs ≡ 8 → 8 ≤ i → b ≡ list_all p (take i xs) → list_all p xs ≡ b
of-all p xs i b e l h = ap (list_all p) (sym (take_all i xs (omega (arith, e, l)))) ∙ sym h

near-all : (c : goal.Else-not-all_near) → list_all is_near c.args.xs ≡ true
near-all c = of-all is_near c.args.xs c.loop-x-2.x-index _ (search rules) c.loop-x-2-test.false c.loop-x-2.invariant ∙ c.if-not-all_near.false

pub returns-then-not-numbers : goal.returns-then-not-numbers
returns-then-not-numbers c = none_where_nan c.args.xs (of-all is_number c.args.xs c.loop-x.x-index _ (search rules) c.loop-x-test.false c.loop-x.invariant ∙ c.if-not-numbers.true)

pub returns-then-not-all_near : goal.returns-then-not-all_near
returns-then-not-all_near c = none_where_far c.args.xs (of-all is_near c.args.xs c.loop-x-2.x-index _ (search rules) c.loop-x-2-test.false c.loop-x-2.invariant ∙ c.if-not-all_near.true)

pub map-requires : goal.map-requires
map-requires c = (lit< tt, (lit< tt, (lit< tt, serves_each is_near _ _ _ c.args.xs (near-all c) (λ q x h. h))))

pub returns : goal.returns
returns c = ap Rattle.std.proofs.Common.Some (maps_each _ narrowed _ c.args.xs c.map.result nan 8 (search rules) c.map.ensures.items (λ q r x y h. search rules)) ∙ eight_where_near c.args.xs (near-all c.before)
