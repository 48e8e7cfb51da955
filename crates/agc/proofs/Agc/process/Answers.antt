-- `agc::Agc::process` meets its contract: where the demands are met, its work is a run over interleaved pairs. Assumes nothing.
use Rattle.stage.proofs.Gives.{pairs_gives}
use Rattle.agc.specs.Process.{agc_stage}
use Rattle.agc.proofs.Agc.process.Goals as goal

pub returns : goal.returns
returns c =
    let run = c.run_pairs-ran.ensures in
    rw c.answer-2.ensures (pairs_gives agc_stage c.args.self c.args.«data».now (rw (c.within.ensures, c.even.ensures) at c.in_default.ensures) run.left run.state run.struck)
