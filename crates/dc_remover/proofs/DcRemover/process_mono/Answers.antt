-- `dc_remover::DcRemover::process_mono` meets its contract: its loop goes on by a block whose run is the definition's. Assumes nothing.
use Prim.Native.Nat.{◌+◌, ◌-◌, ◌*◌, min}
use native.Mathlib.Omega.{arith}
use mathlib.Core.Path.{◌≡◌, refl, ◌∙◌}
use lib.ListN.{length, drop, length-drop}
use lib.Seq.{length-take-le}
use borrow.Author.Rules.{rules}
use Rattle.stage.specs.Lent.{mono}
use Rattle.stage.specs.Call.{gave}
use Rattle.stage.proofs.InParts.{mono_row, part_few, part_turns}
use Rattle.dc_remover.specs.Process.{mono_stage}
use Rattle.dc_remover.proofs.DcRemover.process_mono.Goals as goal

pub overflow_add-struck : goal.overflow_add-struck
overflow_add-struck c =
    let ran = c.block_mono-ran in
    let few = part_few mono_stage mono (mono_row mono_stage) c.loop-b.self _ (gave ran.result.state ran.result.struck ran.new.«data») ran.ensures in
    search rules

pub loop-b-preserved : goal.loop-b-preserved
loop-b-preserved c =
    let l = c.loop-b in
    let end = c.min-end.result in
    let ran = c.block_mono-ran in
    let size = length-take-le (end - 16 * l.b) (drop (16 * l.b) l.«data») (rw length-drop (omega arith)) in
    let here : min (16 * l.b) (length c.args.«data».now) ≡ 16 * l.b = omega arith in
    let there : min (16 * (l.b + 1)) (length c.args.«data».now) ≡ end = omega arith in
    rw there
    (part_turns mono_stage mono (mono_row mono_stage) end (gave ran.result.state ran.result.struck ran.new.«data») (rw here at l.invariant) (omega arith) (omega arith) refl ran.ensures (ran.auto.«data» ∙ size))
