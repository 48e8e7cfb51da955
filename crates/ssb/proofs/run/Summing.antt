-- The Hilbert filter at 65 taps over a short block: it is not refused, and its sums fill the output. Assumes nothing.
use Prim.Native.Nat.{◌≤◌}
use native.Mathlib.Omega.{arith}
use mathlib.Core.Path.{◌≡◌, refl, sym, ap, ◌∙◌}
use mathlib.Core.List.{List, append-nil}
use lib.ListN.{length, drop_of_length-le}
use lib.Ieee.{Float}
use borrow.Author.Tests.{le-leb}
use Rattle.stage.specs.Length.{LONGEST}
use Rattle.stage.specs.Layout.{over}
use Rattle.stage.proofs.Refusals.{run_gives}
use Rattle.fir.specs.Filter.{kept}
use Rattle.fir.specs.Dot.{odd_taps}
use Rattle.fir.specs.Each.{each_outs}
use Rattle.fir.proofs.Each.{each_length}
use Rattle.hilbert.specs.Process.{process_refusal, processed}
use Rattle.hilbert.specs.declared.HilbertDone.{HilbertDone}

-- outputs that fill a slice leave nothing of it
all_over : (os old : List Float) → length os ≡ length old → over os old ≡ os
all_over os old e =
    let past : length old ≤ length os = omega arith in
    rw (drop_of_length-le old past) (append-nil os)

module _ (taps history input output : List Float) (t : length taps ≡ 65) (h : length history ≡ 64) (n : length input ≤ 256) (fill : length output ≡ length input) where
  none : process_refusal (length taps) (length history) (length input) (length output) ≡ 0
  none = rw (t, h, le-leb (length input) LONGEST (omega arith), le-leb (length input) (length output) (omega arith))

  pub summed : (r : HilbertDone) (history' output' : List Float) → (r, history', output') ≡ processed taps history input output
      → (history' ≡ kept history input) × (output' ≡ each_outs (odd_taps taps) history input)
  summed r history' output' is =
      let gives = is ∙ sym (run_gives (process_refusal (length taps) (length history) (length input) (length output)) _ _ none) in (
        ap {B = List Float} (λ p. p.1) gives,
        ap {B = List Float} (λ p. p.2) gives
            ∙ all_over (each_outs (odd_taps taps) history input) output (each_length (odd_taps taps) refl history input ∙ sym fill),
      )
