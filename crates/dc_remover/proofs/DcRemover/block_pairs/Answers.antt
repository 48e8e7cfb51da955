-- `dc_remover::DcRemover::block_pairs` meets its contract: where the trial does not tell, the work is a run over pairs. Assumes nothing.
use Rattle.stage.proofs.Gives.{pairs_ran}
use Rattle.dc_remover.specs.Process.{pair_stage}
use Rattle.dc_remover.proofs.DcRemover.block_pairs.Goals as goal

pub returns : goal.returns
returns c =
    let run = c.run_pairs.ensures in
    pairs_ran pair_stage _ c.args.«data».now c.requires run.left run.state run.struck
