-- `fir::dot::dot_four` meets its contract. Assumes nothing.
use native.Mathlib.Omega.{arith}
use Prim.Native.Nat.{◌+◌, ◌*◌, ◌≤◌}
use native.Mathlib.Nat.{mul-le-mul_right}
use Rattle.fir.proofs.lanes.Carried.{lanes_start, plain_turn, lanes_done}
use mathlib.Core.Path.{refl}
use Rattle.fir.specs.Written.{dots_of}
use Rattle.fir.proofs.Grown.{first_lanes, grown}
use Rattle.fir.proofs.dot.dot_four.Goals as goal

pub loop-i-init : goal.loop-i-init
loop-i-init c = (refl, lanes_start 4 c.args.ts.now c.args.x.now c.args.factor 0)

pub loop-i-preserved : goal.loop-i-preserved
loop-i-preserved c =
    let l = c.loop-i in
    let t = c.turn in
    (t.ensures.0, plain_turn c.args.ts.now c.args.x.now c.args.factor l.i (omega arith) l.sums t.new.acc l.invariant.1 t.ensures.1)

pub returns : goal.returns
returns c =
    let l = c.loop-i in
    let f = c.args.factor in
    let x = c.args.x.now in
    let t = c.args.ts.now in
    grown (dots_of t x f) l.sums 0 4
    (first_lanes (dots_of t x f) l.sums 0 4 (omega arith)
    (λ k h.
    let most : (0 + k) * f ≤ 3 * f = mul-le-mul_right f (omega arith) in
    lanes_done 4 t x f 0 l.sums l.i (omega arith) l.invariant.1 k h (omega (arith, c.requires))))
    (omega arith)
