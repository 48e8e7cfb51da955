-- `angle::lanes::arctangents_f32` meets its contract: in each lane the three parts are the arctangent. Assumes nothing.
use Rattle.angle.specs.Arc.{steep, arctan}
use Rattle.angle.specs.Single.{arctan32}
use Rattle.angle.specs.Lanes.{lane}
use Rattle.angle.proofs.Holding.{holds_four}
use Rattle.angle.proofs.lanes.arctangents_f32.Goals as goal

pub returns : goal.returns
unfolding arctan steep
returns c =
    let a = c.angles in
    let g = c.args in
    holds_four (λ l. arctan32 (lane g.y l) (lane g.x l)) a.result a.ensures.0 (λ l h. rw (a.ensures.1 l h, c.flat_angles.ensures l h, c.ratios.ensures l h))
