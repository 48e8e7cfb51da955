-- `fir::work::Work::four` meets its contract: the four windows lie in the input, or each is read by itself. Assumes nothing.
use Rattle.std.proofs.Common.{rules}
use mathlib.Core.Path.{◌∙◌}
use Prim.Native.Nat.{◌+◌, ◌-◌}
use native.Mathlib.Nat.{add-mul}
use native.Mathlib.Omega.{arith}
use lib.ListN.{length, length-drop}
use Rattle.std.proofs.lemmas.List.{take_rest}
use Rattle.fir.specs.Written.{output_of}
use Rattle.fir.proofs.Counting.{count_in}
use Rattle.fir.proofs.Grown.{first_lanes, grown}
use Rattle.fir.proofs.window.Across.{dots_in}
use Rattle.fir.proofs.work.Work.four.Goals as goal

pub dot_four-requires : goal.dot_four-requires
dot_four-requires c =
    let w = c.args.self.now in
    let a = c.place-at.result - length w.history.now in
    let inside = count_in w.factor w.some w.phase (length w.input.now) (c.args.j + 3) (omega (arith, c.requires, w.is)) in
    let e = c.place-at.ensures.0 in
    rw take_rest (w.most, rw length-drop (omega (arith, w.fit, c.if-h-at.true, add-mul c.args.j 3 w.factor)))

pub returns-then-h-at : goal.returns-then-h-at
returns-then-h-at c =
    let w = c.args.self.now in
    c.dot_four.ensures ∙ dots_in w.history.now w.input.now w.taps.now w.phase w.factor c.args.j c.place-at.result 4 c.if-h-at.true c.place-at.ensures.0

pub returns : goal.returns
returns c =
    let v = output_of c.args.self.now in
    grown v _ c.args.j 4 (first_lanes v _ c.args.j 4 (search rules) (search rules)) (search rules)
