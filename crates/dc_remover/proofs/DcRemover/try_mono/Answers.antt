-- `dc_remover::DcRemover::try_mono` meets its contract: its loop is that of a trial over samples. Assumes nothing.
use lib.Ieee.{nan}
use Rattle.stage.specs.Floats.{plus_zero}
use Rattle.stage.proofs.Trial.{trial_turns}
use Rattle.dc_remover.specs.Step.{mono_answer}
use Rattle.dc_remover.proofs.Tried.{mono_kept}
use Rattle.dc_remover.proofs.DcRemover.try_mono.Goals as goal

pub loop-k-preserved : goal.loop-k-preserved
loop-k-preserved c =
    let l = c.loop-k in
    rw c.mono_kept-out.ensures (trial_turns mono_answer plus_zero (λ s. Unit) (λ x. x) nan l.invariant c.loop-k-test.true (λ f u. (mono_kept l.self _ f, tt)))
