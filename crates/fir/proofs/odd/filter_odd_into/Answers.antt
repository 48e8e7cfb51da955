-- `fir::odd::filter_odd_into` meets its contract: what is written are the filter's outputs. Assumes nothing.
use mathlib.Core.Path.{◌≡◌, sym, ap, ◌∙◌}
use mathlib.Core.Bool.{true}
use mathlib.Core.List.{List, ◌++◌}
use Prim.Native.Nat.{ℕ}
use native.Mathlib.Nat.{zero-add, mul-one}
use borrow.Author.Tests.{leb-true}
use Rattle.stage.proofs.Both.{both}
use lib.Ieee.{Float}
use lib.ListN.{length, take}
use lib.Seq.{length-take-le}
use Rattle.fir.specs.Filter.{output_at}
use Rattle.fir.specs.Dot.{odd_taps}
use Rattle.fir.specs.Into.{fits_odd}
use Rattle.fir.specs.Written.{odd_at}
use Rattle.fir.proofs.Counting.{count_of_each}
use Rattle.fir.proofs.odd.Odd.{odd_output}
use Rattle.fir.proofs.run.Fitting.{outputs_over}
use Rattle.fir.proofs.odd.filter_odd_into.Goals as goal

pub invariant_of-work-clause-is : goal.invariant_of-work-clause-is
invariant_of-work-clause-is c = sym (count_of_each (length c.args.input.now))

pub returns : goal.returns
returns c =
    let a = c.args in
    let t = a.taps.now in
    let x = a.history.now ++ a.input.now in
    let n = length a.input.now in
    let fit : fits_odd (length t) (length a.history.now) n (length a.output.now) ≡ true = rw (← c.within.ensures, ← c.history_fits.ensures) c.if-not-fit.false in
    let room : length (take n a.output.now) ≡ n = length-take-le n a.output.now (leb-true n (length a.output.now) (both _ _ fit).1) in
    rw (fit, c.run_odd.ensures, count_of_each n, room)
    (ap {B = ℕ × List Float} (λ l. (n, l))
    (outputs_over (odd_taps t) 0 x a.output.now (odd_at t x) n
    (λ j. odd_output t x j ∙ ap (output_at (odd_taps t) x) (sym (zero-add _ ∙ mul-one j)))))
