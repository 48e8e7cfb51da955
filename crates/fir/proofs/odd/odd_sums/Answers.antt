-- `fir::odd::odd_sums` meets its contract. Assumes nothing.
use mathlib.Core.Path.{◌≡◌, refl}
use Prim.Native.Nat.{◌+◌, ◌*◌}
use native.Mathlib.Omega.{arith}
use Rattle.fir.proofs.odd.Odd.{odd_start, odd_turn, odd_done}
use Rattle.fir.proofs.odd.odd_sums.Goals as goal

pub loop-k-init : goal.loop-k-init
loop-k-init c = (refl, odd_start c.args.taps.now c.args.x.now c.args.o)

pub loop-k-preserved : goal.loop-k-preserved
loop-k-preserved c =
    let l = c.loop-k in
    let a = c.args in
    let e : 2 * l.k + 2 ≡ 2 * (l.k + 1) = omega arith in
    (c.turn.ensures.0, rw e at (odd_turn a.taps.now a.x.now a.o (2 * l.k) l.acc c.turn.new.acc c.requires (omega arith) l.invariant.1 c.turn.ensures.1))

pub returns : goal.returns
returns c =
    let l = c.loop-k in
    let a = c.args in
    (l.invariant.0, odd_done a.taps.now a.x.now a.o (2 * l.k) l.acc (omega arith) l.invariant.1)
