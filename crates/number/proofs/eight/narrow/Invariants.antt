-- The loops of `number::eight::narrow`: what is said of all is said of those so far. Assumes nothing.
use Rattle.std.proofs.Common.{◌≡◌, not, is_nan, take}
use Rattle.std.specs.List.{list_all}
use Rattle.number.specs.Eight.{is_near}
use Rattle.number.proofs.eight.narrow.Given as goal

abbrev pub invariant-loop-x : goal.invariant-loop-x
invariant-loop-x l = l.numbers ≡ list_all (λ x. not (is_nan x)) (take l.x-index l.xs)

abbrev pub invariant-loop-x-2 : goal.invariant-loop-x-2
invariant-loop-x-2 l = l.all_near ≡ list_all is_near (take l.x-index l.xs)
