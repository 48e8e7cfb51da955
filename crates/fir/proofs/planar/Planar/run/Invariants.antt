-- `fir::planar::Planar::run` meets its contract. The loop's invariant: the outputs of the blocks before b are written. Assumes nothing.
use mathlib.Core.Path.{◌≡◌}
use Prim.Native.Nat.{min, ◌*◌}
use lib.ListN.{length, take}
use Rattle.stage.specs.Counted.{counted}
use Rattle.fir.specs.Written.{output_of}
use Rattle.fir.proofs.planar.Planar.run.Given as goal

abbrev pub invariant-loop-b : goal.invariant-loop-b
invariant-loop-b g l =
    (length l.z ≡ g.row.Z) × (length l.e ≡ g.row.E) × (take (64 * l.b) l.output ≡ counted (output_of l.self.work) (min (64 * l.b) (length l.initial.output)))
