-- `stage::runs::run_pairs` meets its contract: its loop is that of a stage over its layout. Assumes nothing.
use mathlib.Core.Path.{sym}
use borrow.Author.Rules.{rules}
use lib.Ieee.{nan}
use Rattle.stage.specs.Floats.{plus_zero}
use Rattle.stage.proofs.LoopInterleaved.{interleaved_turns, interleaved_ends}
use Rattle.stage.proofs.runs.run_pairs.Goals as goal
use Rattle.stage.proofs.runs.run_pairs.Goals.{in-Some, in-None}

pub loop-k-preserved : goal.loop-k-preserved
loop-k-preserved g c =
    elim c.match-step.branch [
      | in-Some w ↦ let turn = interleaved_turns g.S.Feedback.answer (plus_zero, plus_zero) nan c.loop-k.invariant c.loop-k-test.true (sym w.in-Some.ensures) in search rules
      | in-None w ↦ let turn = interleaved_turns g.S.Feedback.answer (plus_zero, plus_zero) nan c.loop-k.invariant c.loop-k-test.true (sym w.in-None.ensures) in search rules
    ]

pub returns : goal.returns
returns g c =
    let e = interleaved_ends g.S.Feedback.answer (plus_zero, plus_zero) c.loop-k.invariant c.loop-k-test.false in
    record { left = e.0; state = e.1; struck = e.2 }
