-- `dc_remover::DcRemover::try_pairs` meets its contract: its loop is that of a trial over interleaved pairs. Assumes nothing.
use lib.Ieee.{nan}
use Rattle.stage.specs.Floats.{plus_zero}
use Rattle.stage.proofs.Trial.{pair_trial_turns, pair_trial_ends}
use Rattle.dc_remover.specs.Step.{pair_answer}
use Rattle.dc_remover.proofs.Tried.{pair_kept}
use Rattle.dc_remover.proofs.DcRemover.try_pairs.Goals as goal

pub loop-k-preserved : goal.loop-k-preserved
loop-k-preserved c =
    let l = c.loop-k in
    rw c.pair_kept.ensures (pair_trial_turns pair_answer (plus_zero, plus_zero) nan l.invariant c.loop-k-test.true (pair_kept l.self _))

pub returns : goal.returns
returns c a =
    let e = pair_trial_ends pair_answer (plus_zero, plus_zero) c.loop-k.invariant c.loop-k-test.false a in
    rw (← e.0, ← e.1, ← e.2)
