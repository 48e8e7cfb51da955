-- `dc_remover::DcRemover::process` meets its contract: its loop goes on by a block whose run is the definition's. Assumes nothing.
use Prim.Native.Nat.{◌+◌, ◌-◌, ◌*◌, ◌%◌, min}
use native.Mathlib.Omega.{arith}
use mathlib.Core.Path.{◌≡◌, ◌∙◌}
use lib.ListN.{length, take, drop, length-drop}
use lib.Seq.{length-take-le}
use borrow.Author.Tests.{eqb-true, eq-eqb}
use borrow.Author.Rules.{rules}
use Rattle.stage.specs.Lent.{interleaved}
use Rattle.stage.specs.Call.{gave}
use Rattle.stage.proofs.Gives.{accepted_even}
use Rattle.stage.proofs.InParts.{interleaved_row, part_few, part_turns}
use Rattle.dc_remover.specs.Process.{pair_stage}
use Rattle.dc_remover.proofs.DcRemover.process.Goals as goal

pub block_pairs-ran-requires : goal.block_pairs-ran-requires
block_pairs-ran-requires c =
    let l = c.loop-b in
    let end = c.min-end.result in
    let size = length-take-le (end - 32 * l.b) (drop (32 * l.b) l.«data») (rw length-drop (omega arith)) in
    let met = rw (c.within.ensures, c.even.ensures) at c.in_default.ensures in
    let whole = eqb-true _ _ (accepted_even pair_stage interleaved c.args.self c.args.«data».now met) in
    eq-eqb (length (take (end - 32 * l.b) (drop (32 * l.b) l.«data»)) % 2) 0 (omega arith)

pub overflow_add-struck : goal.overflow_add-struck
overflow_add-struck c =
    let ran = c.block_pairs-ran in
    let few = part_few pair_stage interleaved (interleaved_row pair_stage) c.loop-b.self _ (gave ran.result.state ran.result.struck ran.new.«data») ran.ensures in
    search rules

pub loop-b-preserved : goal.loop-b-preserved
loop-b-preserved c =
    let l = c.loop-b in
    let end = c.min-end.result in
    let ran = c.block_pairs-ran in
    let size = length-take-le (end - 32 * l.b) (drop (32 * l.b) l.«data») (rw length-drop (omega arith)) in
    let met = rw (c.within.ensures, c.even.ensures) at c.in_default.ensures in
    let whole = eqb-true _ _ (accepted_even pair_stage interleaved c.args.self c.args.«data».now met) in
    let even : length (take (end - 32 * l.b) (drop (32 * l.b) l.«data»)) % 2 ≡ 0 = omega arith in
    let here : min (32 * l.b) (length c.args.«data».now) ≡ 32 * l.b = omega arith in
    let there : min (32 * (l.b + 1)) (length c.args.«data».now) ≡ end = omega arith in
    rw there
    (part_turns pair_stage interleaved (interleaved_row pair_stage) end (gave ran.result.state ran.result.struck ran.new.«data») (rw here at l.invariant) (omega arith) (omega arith) (eq-eqb _ _ even) ran.ensures (ran.auto.«data» ∙ size))
