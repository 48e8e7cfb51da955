-- `fir::blocks::by_32` meets its contract. Assumes nothing.
use mathlib.Core.Path.{◌∙◌}
use Prim.Native.Nat.{◌-◌, ◌*◌}
use native.Mathlib.Omega.{arith}
use Rattle.fir.proofs.Grown.{first_lanes, grows_to, all_grown}
use Rattle.fir.proofs.blocks.by_32.Goals as goal

pub loop-b-preserved : goal.loop-b-preserved
loop-b-preserved g c v gives =
    let l = c.loop-b in
    let at = 32 * l.b in
    let end = c.min-end.result in
    let acc = c.sums-acc in
    let is = gives at acc.result (omega arith) acc.ensures in
    let ys = c.copy_from_slice.ensures.after ∙ first_lanes v acc.result at (end - at) (omega (arith, is)) (λ i h. is.1 i (omega arith) (omega arith)) in
    grows_to v l.output _ at l.auto.output (l.invariant v gives) c.copy_from_slice.new.self 32 end _ (omega arith) (omega arith) (omega arith) ys

pub returns : goal.returns
returns g c v gives = let l = c.loop-b in all_grown v l.output _ (32 * l.b) l.auto.output (l.invariant v gives) (omega arith)
