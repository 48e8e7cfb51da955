-- `stage::block::all_finite` meets its contract. The loop's invariant: `all` tells of those that were seen. Assumes nothing.
use mathlib.Core.Path.{◌≡◌}
use lib.ListN.{take}
use Rattle.stage.specs.Floats.{all_finite}
use Rattle.stage.proofs.block.all_finite.Given as goal

abbrev pub invariant-loop-x : goal.invariant-loop-x
invariant-loop-x l = l.all ≡ all_finite (take l.x-index l.xs)
