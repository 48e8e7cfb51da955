-- `fir::work::Work::run_odd` meets its contract. The loop's invariant: the outputs of the blocks before b are written. Assumes nothing.
use mathlib.Core.Path.{◌≡◌}
use Prim.Native.Nat.{min, ◌*◌}
use lib.ListN.{length, take}
use Rattle.stage.specs.Counted.{counted}
use Rattle.fir.specs.Written.{odd_of}
use Rattle.fir.proofs.work.Work.run_odd.Given as goal

abbrev pub invariant-loop-b : goal.invariant-loop-b
invariant-loop-b l =
    (length l.e ≡ 512) × (take (256 * l.b) l.output ≡ counted (odd_of l.self) (min (256 * l.b) (length l.initial.output)))
