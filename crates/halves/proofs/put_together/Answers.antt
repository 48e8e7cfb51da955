-- `halves::put_together` meets its contract. Assumes nothing.
use native.Mathlib.Omega.{arith}
use Rattle.stage.specs.Layout.{flat, zip}
use Rattle.stage.proofs.Filling.{filling_begins}
use Rattle.stage.proofs.Layouts.{length_zip, length_flat}
use Rattle.halves.proofs.put_together.Goals as goal

pub loop-k-init : goal.loop-k-init
loop-k-init c =
    let a = c.args in
    let ps = zip a.i.now a.q.now in
    filling_begins (flat ps) a.output.now (omega (arith, length_flat ps, length_zip a.i.now a.q.now c.requires.1))
