-- `am::AmDemodulator::process_into` meets its contract: where the demands are met, its work is a run from pairs to single outputs. Assumes nothing.
use Rattle.stage.proofs.Gives.{into_gives}
use Rattle.am.specs.Process.{am_stage}
use Rattle.am.proofs.AmDemodulator.process_into.Goals as goal

pub returns : goal.returns
returns c =
    let run = c.run_into-ran.ensures in
    rw c.answer-2.ensures (into_gives am_stage c.args.self c.args.input.now c.args.output.now c.in_default.ensures run.left run.state run.struck)
