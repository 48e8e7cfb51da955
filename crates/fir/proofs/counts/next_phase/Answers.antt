-- `fir::counts::next_phase` meets its contract: what is left of the last whole factor. Assumes nothing.
use Prim.Native.Nat.{◌-◌, ◌/◌}
use native.Mathlib.Nat.{div-add-mod', div-zero, add-mul, one-mul}
use native.Mathlib.Omega.{arith}
use mathlib.Core.Path.{sym}
use Rattle.fir.specs.Filter.{count_of, next_phase}
use Rattle.fir.proofs.Counting.{phase_drops, count_some}
use Rattle.fir.proofs.counts.next_phase.Goals as goal

pub returns-then-n-phase : goal.returns-then-n-phase
returns-then-n-phase c =
    let a = c.args in
    sym (phase_drops a.factor a.phase a.n (omega arith))

pub returns-then-factor-eq0 : goal.returns-then-factor-eq0
unfolding next_phase count_of
returns-then-factor-eq0 c = rw (c.if-factor-eq0.true, div-zero) (omega arith)

pub returns : goal.returns
unfolding next_phase
returns c =
    let a = c.args in
    let m = a.n - a.phase - 1 in
    rw (count_some a.factor (omega arith) a.phase a.n (omega arith))
    (omega (arith, add-mul (m / a.factor) 1 a.factor, one-mul a.factor, div-add-mod' m a.factor))
