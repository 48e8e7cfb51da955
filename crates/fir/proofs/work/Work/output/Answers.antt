-- `fir::work::Work::output` meets its contract: the window lies in the input, or across history and input. Assumes nothing.
use native.Mathlib.Omega.{arith}
use mathlib.Core.Path.{ap, ◌∙◌}
use mathlib.Core.List.{◌++◌}
use Rattle.fir.specs.Written.{dot_at}
use Rattle.fir.proofs.window.Across.{window_in, window_across}
use Rattle.fir.proofs.work.Work.output.Goals as goal

pub returns-then-h-at : goal.returns-then-h-at
returns-then-h-at c =
    let w = c.args.self.now in
    c.dot_from.ensures ∙ window_in w.history.now w.input.now w.taps.now c.place-at.result (omega arith) ∙ ap (dot_at w.taps.now (w.history.now ++ w.input.now)) c.place-at.ensures.0

pub returns : goal.returns
returns c =
    let w = c.args.self.now in
    c.dot_from-2.ensures
    ∙ rw c.dot_from-first.ensures (window_across w.history.now w.input.now w.taps.now c.place-at.result (omega arith))
    ∙ ap (dot_at w.taps.now (w.history.now ++ w.input.now)) c.place-at.ensures.0
