-- `fir::dot::dot_from` meets its contract. The invariant: the sum so far, carried on over what is left of both lists, is the whole sum. Assumes nothing.
use mathlib.Core.Path.{◌≡◌}
use lib.ListN.{drop}
use Rattle.fir.specs.Dot.{dot_from}
use Rattle.fir.proofs.dot.dot_from.Given as goal

abbrev pub invariant-loop-i : goal.invariant-loop-i
invariant-loop-i l = dot_from l.sum (drop l.i l.xs) (drop l.i l.ts) ≡ dot_from l.acc l.xs l.ts
