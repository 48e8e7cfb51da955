-- `hilbert::taps::design` meets its contract. Assumes nothing.
use Prim.Native.Nat.{◌-◌, ◌<◌}
use native.Mathlib.Omega.{arith}
use mathlib.Core.Path.{◌≡◌, sym}
use lib.ListN.{length}
use Rattle.stage.proofs.Filling.{filling_begins, filling_turns, next_counted, length_counted}
use Rattle.hilbert.specs.Taps.{tap_at, hilbert_taps}
use Rattle.hilbert.proofs.taps.design.Goals as goal

pub loop-i-init : goal.loop-i-init
loop-i-init c =
    let taps = c.args.taps.now in
    let z : length taps - 0 ≡ length taps = omega arith in
    rw z (filling_begins (hilbert_taps (length taps)) taps (sym (length_counted (tap_at (length taps)) 0 (length taps))))

pub loop-i-preserved : goal.loop-i-preserved
loop-i-preserved c =
    let l = c.loop-i in
    let n = length c.args.taps.now in
    let h : l.i < n = omega arith in
    let e : length l.taps ≡ n = l.auto.taps in
    rw (c.tap.ensures, e) (filling_turns (rw (next_counted (tap_at n) l.i n h) at l.invariant))
