-- `fir::counts::count` meets its contract: one output, and one more for each whole factor behind it. Assumes nothing.
use native.Mathlib.Nat.{div-zero}
use native.Mathlib.Omega.{arith}
use mathlib.Core.Path.{sym}
use Rattle.fir.specs.Filter.{count_of}
use Rattle.fir.proofs.Counting.{count_none, count_some}
use Rattle.fir.proofs.counts.count.Goals as goal

pub returns-then-n-phase : goal.returns-then-n-phase
returns-then-n-phase c =
    let a = c.args in
    sym (count_none a.factor a.phase a.n (omega arith))

pub returns-then-factor-eq0 : goal.returns-then-factor-eq0
unfolding count_of
returns-then-factor-eq0 c = rw c.if-factor-eq0.true (sym (div-zero _))

pub returns : goal.returns
returns c =
    let a = c.args in
    sym (count_some a.factor (omega arith) a.phase a.n (omega arith))
