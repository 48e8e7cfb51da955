-- `root::whole_root` meets its contract. The loop's invariant: the root is at least r and below r + 2 ^ d (`Digit.antt`). Assumes nothing.
use Rattle.root.proofs.Digit.{Near}
use Rattle.root.proofs.whole_root.Given as goal

abbrev pub invariant-loop-d : goal.invariant-loop-d
invariant-loop-d l = Near l.n l.r l.d
