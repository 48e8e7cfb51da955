-- `audio_agc::AudioAgc::try_live` meets its contract: its loops are those of a trial. Assumes nothing.
use native.Mathlib.Omega.{arith}
use Rattle.audio_agc.proofs.Trying.{trying_begins, trying_turns}
use Rattle.audio_agc.proofs.AudioAgc.try_live.Goals as goal

pub loop-k-init : goal.loop-k-init
loop-k-init c = trying_begins _ _ _ (omega (arith, c.requires.0)) c.requires.1

pub loop-at-preserved : goal.loop-at-preserved
loop-at-preserved c =
    let l = c.loop-at in
    let here = c.falls.ensures c.loop-at-test.true in
    (omega arith, trying_turns _ _ _ _ _ _ here (c.signal.ensures _ c.in_ok-at.was) l.invariant.1)

pub loop-k-preserved-then-k-data : goal.loop-k-preserved-then-k-data
loop-k-preserved-then-k-data c =
    let l = c.loop-at in
    trying_turns _ _ _ _ _ _ c.if-k-data.true (c.signal-then-k-data.ensures _ c.in_ok-at-2.was) l.invariant.1
