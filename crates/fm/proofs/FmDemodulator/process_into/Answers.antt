-- `fm::FmDemodulator::process_into` meets its contract: the angles first and then the feedback is the run over the pairs. Assumes nothing.
use mathlib.Core.Path.{sym, ap, ◌∙◌}
use lib.ListN.{length}
use Rattle.stage.specs.Into.{refused_put, number_into, ran_into}
use Rattle.stage.proofs.Refusals.{run_gives}
use Rattle.fm.specs.Process.{fm_stage, followed}
use Rattle.fm.proofs.Ahead.{ahead}
use Rattle.fm.proofs.FmDemodulator.process_into.Goals as goal

pub returns : goal.returns
returns c =
    let a = c.args in
    let number = number_into fm_stage a.self (length a.input.now) (length a.output.now) in
    ahead a.self a.input.now a.output.now c.follow.new.run c.follow.result (c.follow.ensures ∙ ap (followed a.self) c.angles.ensures)
    ∙ run_gives number (ran_into fm_stage a.self a.input.now a.output.now) (refused_put number a.self a.output.now) (sym c.in_default.ensures)
