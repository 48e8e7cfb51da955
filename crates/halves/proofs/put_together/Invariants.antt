-- `halves::put_together` meets its contract. The loop's invariant: the places of the first k pairs hold them, and the rest are to come.
-- Assumes nothing.
use Prim.Native.Nat.{◌*◌}
use lib.ListN.{drop}
use Rattle.stage.specs.Layout.{flat, zip}
use Rattle.stage.proofs.Filling.{Filling}
use Rattle.halves.proofs.put_together.Given as goal

abbrev pub invariant-loop-k : goal.invariant-loop-k
invariant-loop-k l =
    Filling (flat (zip l.i l.q)) (2 * l.k) (flat (zip (drop l.k l.i) (drop l.k l.q))) l.output
