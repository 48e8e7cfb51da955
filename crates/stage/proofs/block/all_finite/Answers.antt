-- `stage::block::all_finite` meets its contract. The loop's invariant: `all` tells of those that were seen. Assumes nothing.
use native.Mathlib.Numerals.{add-one}
use mathlib.Core.Path.{sym}
use lib.ListN.{take}
use lib.Seq.{take-suc}
use lib.Ieee.{nan}
use Rattle.stage.proofs.AllFinite.{all_snoc}
use Rattle.stage.proofs.block.all_finite.Goals as goal

pub loop-x-preserved : goal.loop-x-preserved
loop-x-preserved c =
    let l = c.loop-x in
    let xs = c.args.xs.now in
    rw (c.finite-all.ensures, l.invariant, add-one, take-suc xs l.x-index nan c.loop-x-test.true) (sym (all_snoc (take l.x-index xs) _))
