-- `halves::take_apart` meets its contract. Assumes nothing.
use Prim.Native.Nat.{◌+◌, ◌*◌, ◌<◌}
use native.Mathlib.Omega.{arith}
use mathlib.Core.Path.{◌≡◌}
use lib.ListN.{length}
use lib.Ieee.{nan}
use Rattle.stage.specs.Layout.{pairs, firsts, seconds}
use Rattle.stage.proofs.Layouts.{pairs_drop, length_pairs, length_firsts, length_seconds}
use Rattle.stage.proofs.Filling.{filling_begins, filling_turns}
use Rattle.halves.proofs.take_apart.Goals as goal

pub loop-k-init : goal.loop-k-init
loop-k-init c =
    let a = c.args in
    let ps = pairs a.input.now in
    let half : length ps ≡ length a.i.now = omega (arith, length_pairs a.input.now) in (
      filling_begins (firsts ps) a.i.now (omega (arith, length_firsts ps)),
      filling_begins (seconds ps) a.q.now (omega (arith, length_seconds ps)),
    )

pub loop-k-preserved : goal.loop-k-preserved
loop-k-preserved c =
    let l = c.loop-k in
    let x = c.args.input.now in
    let here : 2 * l.k + 1 < length x = omega arith in
    let e : 2 * (l.k + 1) ≡ 2 * l.k + 2 = omega arith in
    let next = pairs_drop x (2 * l.k) nan here in (
      rw e (filling_turns (rw next at l.invariant.0)),
      rw e (filling_turns (rw next at l.invariant.1)),
    )
