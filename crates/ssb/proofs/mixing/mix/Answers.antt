-- `ssb::mixing::mix` meets its contract: a turn mixes the next place. Assumes nothing.
use Prim.Native.Nat.{◌+◌, ◌≤◌, ◌<◌}
use native.Mathlib.Omega.{arith}
use mathlib.Core.Path.{sym}
use lib.ListN.{length, drop_of_length-le}
use lib.Seq.{drop-set-lt}
use Rattle.stage.proofs.Filling.{filling_begins, filling_turns, filling_ends}
use Rattle.ssb.specs.Sideband.{mixed}
use Rattle.ssb.proofs.mixing.Mixed.{mixed_length, mixed_next}
use Rattle.ssb.proofs.mixing.mix.Goals as goal

pub loop-k-init : goal.loop-k-init
loop-k-init g c usb makes =
    let a = c.args in
    filling_begins (mixed usb a.delayed.now a.sums.now) a.sums.now (sym (mixed_length usb a.delayed.now a.sums.now c.requires.lengths))

pub loop-k-preserved : goal.loop-k-preserved
loop-k-preserved g c usb makes =
    let l = c.loop-k in
    let a = c.args in
    let here : l.k < length a.delayed.now = omega arith in
    let there : l.k < length l.sums = omega arith in
    let more : l.k < l.k + 1 = omega arith in
    rw (drop-set-lt (l.k + 1) l.sums l.k c.of_sum.result more, makes _ _ c.of_sum.result c.of_sum.ensures)
    (filling_turns (rw (mixed_next usb a.delayed.now l.sums l.k here there) at (l.invariant usb makes)))

pub returns : goal.returns
returns g c usb makes =
    let l = c.loop-k in
    let delayed = c.args.delayed.now in
    let past : length delayed ≤ l.k = omega arith in
    filling_ends {out = l.sums} (rw (drop_of_length-le delayed past) at (l.invariant usb makes))
