-- `fir::planes::Planes::sums` meets its contract. Assumes nothing.
use mathlib.Core.Path.{◌≡◌, refl}
use Prim.Native.Nat.{ℕ, ◌+◌, ◌*◌, ◌≤◌, ◌<◌}
use native.Mathlib.Omega.{arith}
use native.Mathlib.Nat.{add-mul, one-mul}
use lib.ListN.{length}
use Rattle.fir.proofs.lanes.Carried.{lanes_start, planes_turn, lanes_done}
use Rattle.fir.proofs.planes.Copied.{row_below}
use borrow.Author.Rules.{rules}
use Rattle.fir.proofs.planes.Planes.sums.Goals as goal
use Rattle.fir.proofs.planes.Planes.sums.Goals.{then-p-self, else-p-self}

-- 32 lanes from row k on are in the planes, where tap i's sample lies in plane p
row : (k q p i n factor : ℕ) → k * factor + p ≡ q * factor + i → i < n → n ≤ 16 * factor + 1 → q ≤ 64 → p < factor → k + 32 ≤ 128
row k q p i n factor e l m b h =
    let below : k < q + 17 = row_below k factor (q + 17) (omega (arith, add-mul q 17 factor)) in
    omega arith

pub loop-tap-init : goal.loop-tap-init
loop-tap-init c =
    let a = c.args in
    let w = a.self.now in
    (search rules, search rules, refl, lanes_start 32 a.taps.now w.x.now w.factor a.q)

pub loop-tap-preserved : goal.loop-tap-preserved
loop-tap-preserved c =
    let l = c.loop-tap in
    let a = c.args in
    let w = a.self.now in
    let r = row l.k a.q l.p l.tap-index (length a.taps.now) w.factor l.invariant.1 (omega arith) (omega arith) (omega arith) l.invariant.0 in
    let lanes = planes_turn w.z.now a.taps.now w.x.now w.factor a.q l.p l.k l.tap-index w.filled l.invariant.0 r l.invariant.1 (omega arith)
    l.acc c.turn.new.acc l.invariant.3 c.turn.ensures.1 in
    elim c.if-p-self.branch [
      | then-p-self b ↦ (omega (arith, b.p-is), rw (b.p-is, b.k-is) (omega (arith, b.if-p-self.true, add-mul l.k 1 w.factor, one-mul w.factor)), c.turn.ensures.0, lanes)
      | else-p-self b ↦ (omega (arith, b.p-is, b.if-p-self.false), rw (b.p-is, b.k-is) (omega arith), c.turn.ensures.0, lanes)
    ]

pub returns : goal.returns
returns c =
    let l = c.loop-tap in
    let a = c.args in
    let w = a.self.now in
    (l.invariant.2, lanes_done 32 a.taps.now w.x.now w.factor a.q l.acc l.tap-index (omega arith) l.invariant.3)
