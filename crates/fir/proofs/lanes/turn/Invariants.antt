-- `fir::lanes::turn` meets its contract. The loop's invariant: the lanes before l have taken the tap, the others have not. Assumes nothing.
use mathlib.Core.Path.{◌≡◌}
use lib.ListN.{length}
use Rattle.fir.proofs.lanes.Turning.{Turning}
use Rattle.fir.proofs.lanes.turn.Given as goal

abbrev pub invariant-loop-l : goal.invariant-loop-l
invariant-loop-l g l = (length l.acc ≡ g.row.N) × Turning l.initial.acc l.x l.place l.step l.tap l.acc l.l
