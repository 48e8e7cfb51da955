-- `dc_remover::DcRemover::try_pairs` meets its contract: its loop is that of a trial over interleaved pairs. Assumes nothing.
use Rattle.stage.specs.Floats.{plus_zero}
use Rattle.stage.proofs.Trial.{PairTrial}
use Rattle.dc_remover.specs.Step.{pair_answer}
use Rattle.dc_remover.proofs.DcRemover.try_pairs.Given as goal

abbrev pub invariant-loop-k : goal.invariant-loop-k
invariant-loop-k l = PairTrial pair_answer (plus_zero, plus_zero) l.initial.self l.data l.z l.self l.k
