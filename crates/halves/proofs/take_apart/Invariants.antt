-- `halves::take_apart` meets its contract. The loop's invariant: the first k places hold I and Q of the first k pairs, and those of the rest are
-- to come. Assumes nothing.
use Prim.Native.Nat.{◌*◌}
use lib.ListN.{drop}
use Rattle.stage.specs.Layout.{pairs, firsts, seconds}
use Rattle.stage.proofs.Filling.{Filling}
use Rattle.halves.proofs.take_apart.Given as goal

abbrev pub invariant-loop-k : goal.invariant-loop-k
invariant-loop-k l =
    Filling (firsts (pairs l.input)) l.k (firsts (pairs (drop (2 * l.k) l.input))) l.i
    × Filling (seconds (pairs l.input)) l.k (seconds (pairs (drop (2 * l.k) l.input))) l.q
