-- `fir::run::filter_into` meets its contract: what is written are the filter's outputs. Assumes nothing.
use mathlib.Core.Path.{◌≡◌, ap, ◌∙◌}
use mathlib.Core.Bool.{true}
use mathlib.Core.List.{List, ◌++◌}
use Prim.Native.Nat.{ℕ, ◌+◌, ◌*◌}
use lib.Ieee.{Float}
use lib.ListN.{length, drop}
use Rattle.fir.specs.Dot.{every_tap}
use Rattle.fir.specs.Into.{fits}
use Rattle.fir.specs.Written.{dot_at}
use Rattle.fir.proofs.dot.Products.{dot_output}
use Rattle.fir.proofs.run.Fitting.{outputs_over}
use Rattle.fir.proofs.run.filter_into.Goals as goal

pub returns : goal.returns
returns c =
    let a = c.args in
    let t = a.taps.now in
    let x = a.history.now ++ a.input.now in
    let n = c.count-count.result in
    let fit : fits a.factor a.phase (length t) (length a.history.now) (length a.input.now) (length a.output.now) ≡ true =
    rw (← c.count-count.ensures, ← c.within.ensures, ← c.history_fits.ensures) c.if-not-fit.false in
    let holds = c.run.ensures in
    rw (fit, ← c.count-count.ensures)
    (ap {B = ℕ × List Float} (λ l. (n, l))
    (ap (λ (l : List Float). l ++ drop n a.output.now) holds
    ∙ outputs_over (every_tap a.factor t) a.phase x a.output.now (λ j. dot_at t x (a.phase + j * a.factor)) n
    (λ j. dot_output a.factor t x (a.phase + j * a.factor))))
