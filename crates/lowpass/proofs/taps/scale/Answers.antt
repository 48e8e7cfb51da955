-- `lowpass::taps::scale` meets its contract. Assumes nothing.
use Prim.Native.Nat.{◌+◌, ◌<◌}
use native.Mathlib.Omega.{arith}
use lib.ListN.{length, get_or}
use lib.Seq.{drop-set-lt}
use lib.Ieee.{nan}
use Rattle.stage.proofs.Filling.{filling_turns, next_mapped}
use Rattle.lowpass.specs.Lowpass.{divided_by}
use Rattle.lowpass.proofs.taps.scale.Goals as goal

pub loop-t-preserved : goal.loop-t-preserved
unfolding divided_by
loop-t-preserved c =
    let l = c.loop-t in
    let sum = c.args.sum in
    let h : l.t-index < length l.taps = omega arith in
    let more : l.t-index < l.t-index + 1 = omega arith in
    rw (drop-set-lt (l.t-index + 1) l.taps l.t-index (divided_by sum (get_or l.taps l.t-index nan)) more) (filling_turns (rw (next_mapped (divided_by sum) l.taps l.t-index nan h) at l.invariant))
