-- `lowpass::taps::shape` meets its contract. Assumes nothing.
use Prim.Native.Nat.{◌-◌, ◌<◌}
use native.Mathlib.Omega.{arith}
use mathlib.Core.Path.{◌≡◌, sym}
use lib.ListN.{length}
use Rattle.stage.proofs.Filling.{filling_begins, filling_turns, next_counted, length_counted}
use Rattle.lowpass.specs.Lowpass.{unscaled, shapes}
use Rattle.lowpass.proofs.taps.shape.Goals as goal

pub loop-i-init : goal.loop-i-init
loop-i-init c =
    let taps = c.args.taps.now in
    let cutoff = c.args.cutoff in
    let z : length taps - 0 ≡ length taps = omega arith in
    rw z (filling_begins (shapes (length taps) cutoff) taps (sym (length_counted (unscaled (length taps - 1) cutoff) 0 (length taps))))

pub loop-i-preserved : goal.loop-i-preserved
loop-i-preserved c =
    let l = c.loop-i in
    let n = length c.args.taps.now in
    let h : l.i < n = omega arith in
    let e : length l.taps - 1 ≡ n - 1 = omega arith in
    rw (c.tap.ensures, e) (filling_turns (rw (next_counted (unscaled (n - 1) c.args.cutoff) l.i n h) at l.invariant))
