-- `stage::runs::run_into` meets its contract: its loop is that of a stage over its layout. Assumes nothing.
use native.Mathlib.Omega.{arith}
use mathlib.Core.Path.{sym}
use borrow.Author.Rules.{rules}
use lib.Ieee.{nan}
use Rattle.stage.specs.Floats.{plus_zero}
use Rattle.stage.proofs.LoopInto.{into_turns, into_ends}
use Rattle.stage.proofs.runs.run_into.Goals as goal
use Rattle.stage.proofs.runs.run_into.Goals.{in-Some, in-None}

pub loop-k-preserved : goal.loop-k-preserved
loop-k-preserved g c =
    elim c.match-step.branch [
      | in-Some w ↦ let turn = into_turns g.S.Feedback.answer plus_zero nan c.loop-k.invariant (omega arith) (omega arith) (sym w.in-Some.ensures) in search rules
      | in-None w ↦ let turn = into_turns g.S.Feedback.answer plus_zero nan c.loop-k.invariant (omega arith) (omega arith) (sym w.in-None.ensures) in search rules
    ]

pub returns : goal.returns
returns g c =
    let e = into_ends g.S.Feedback.answer plus_zero c.loop-k.invariant (omega arith) in
    record { left = e.0; state = e.1; struck = e.2 }
