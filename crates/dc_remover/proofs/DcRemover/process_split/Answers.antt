-- `dc_remover::DcRemover::process_split` meets its contract: its loop goes on by a block whose run is the definition's. Assumes nothing.
use Prim.Native.Nat.{◌+◌, ◌*◌, ◌≤◌, min}
use native.Mathlib.Omega.{arith}
use mathlib.Core.Path.{◌≡◌, ◌∙◌}
use borrow.Author.Rules.{rules}
use Rattle.stage.specs.Lent.{split}
use Rattle.stage.specs.Call.{gave}
use Rattle.stage.proofs.Gives.{met_gives}
use Rattle.stage.proofs.SplitParts.{part_left, part_right, split_part_few, split_parts_turn, split_parts_end}
use Rattle.dc_remover.specs.Process.{pair_stage}
use Rattle.dc_remover.proofs.DcRemover.process_split.Goals as goal

pub overflow_add-struck : goal.overflow_add-struck
overflow_add-struck c =
    let l = c.loop-b in
    let ran = c.block_split-ran in
    let here : min (16 * l.b) c.min-n.result ≡ 16 * l.b = omega arith in
    let few = split_part_few pair_stage (rw here at l.invariant) c.min-end.result (omega arith) (omega arith) (gave ran.result.state ran.result.struck (ran.new.i, ran.new.q)) ran.ensures in
    search rules

pub loop-b-preserved : goal.loop-b-preserved
loop-b-preserved c =
    let l = c.loop-b in
    let ran = c.block_split-ran in
    let end = c.min-end.result in
    let here : min (16 * l.b) c.min-n.result ≡ 16 * l.b = omega arith in
    let there : min (16 * (l.b + 1)) c.min-n.result ≡ end = omega arith in
    let at = rw here at l.invariant in
    let up : 16 * l.b ≤ end = omega arith in
    let to : end ≤ c.min-n.result = omega arith in
    rw there
    (split_parts_turn pair_stage at end up to (gave ran.result.state ran.result.struck (ran.new.i, ran.new.q)) ran.ensures
    (ran.auto.i ∙ part_left pair_stage at end up to) (ran.auto.q ∙ part_right pair_stage at end up to))

pub returns : goal.returns
returns c =
    let s = c.args in
    let met = rw (c.within.ensures, c.within-2.ensures) at c.in_default.ensures in
    rw c.answer-2.ensures (met_gives pair_stage split s.self (s.i.now, s.q.now) met (split_parts_end pair_stage c.loop-b.invariant (omega arith)))
