-- `dc_remover::DcRemover::try_mono` meets its contract: its loop is that of a trial over samples. Assumes nothing.
use Rattle.stage.specs.Floats.{plus_zero}
use Rattle.stage.proofs.Trial.{MonoTrial}
use Rattle.dc_remover.specs.Step.{mono_answer}
use Rattle.dc_remover.proofs.DcRemover.try_mono.Given as goal

abbrev pub invariant-loop-k : goal.invariant-loop-k
invariant-loop-k l = MonoTrial mono_answer plus_zero (λ s. Unit) (λ x. x) l.initial.self l.data l.z l.self l.k
