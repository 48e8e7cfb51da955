-- `fir::work::Work::run_plain` meets its contract. The loops' invariants: the outputs so far are written. Assumes nothing.
use mathlib.Core.Path.{◌≡◌}
use Prim.Native.Nat.{◌*◌}
use lib.ListN.{take}
use Rattle.stage.specs.Counted.{counted}
use Rattle.fir.specs.Written.{output_of}
use Rattle.fir.proofs.work.Work.run_plain.Given as goal

abbrev pub invariant-loop-k : goal.invariant-loop-k
invariant-loop-k l = (take (4 * l.k) l.output ≡ counted (output_of l.self) (4 * l.k))

abbrev pub invariant-loop-j : goal.invariant-loop-j
invariant-loop-j l = (take l.j l.output ≡ counted (output_of l.self) l.j)
