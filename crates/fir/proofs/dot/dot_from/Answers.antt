-- `fir::dot::dot_from` meets its contract. Assumes nothing.
use mathlib.Core.Path.{sym, ◌∙◌}
use native.Mathlib.Omega.{arith}
use lib.ListN.{drop}
use Rattle.fir.proofs.dot.Products.{dot_step, dot_done}
use Rattle.fir.proofs.dot.dot_from.Goals as goal

pub loop-i-preserved : goal.loop-i-preserved
loop-i-preserved c =
    let a = c.args in
    sym (dot_step c.loop-i.sum a.xs.now a.ts.now c.loop-i.i (omega arith) (omega arith)) ∙ c.loop-i.invariant

pub returns : goal.returns
returns c =
    let a = c.args in
    sym (dot_done c.loop-i.sum (drop c.loop-i.i a.xs.now) a.ts.now c.loop-i.i (omega arith)) ∙ c.loop-i.invariant
