-- The calls of the stages, where the receiver makes them: none is refused, and each fills the room for what it gives. Assumes nothing.
use Prim.Native.Nat.{ℕ, ◌%◌, ◌/◌, ◌≤◌, ◌<◌}
use native.Mathlib.Omega.{arith}
use mathlib.Core.Path.{◌≡◌, refl, sym, ap, ◌∙◌}
use mathlib.Core.Bool.{true}
use mathlib.Core.List.{List, append-nil}
use lib.ListN.{length, replicate, drop_of_length-le}
use lib.Ieee.{Float}
use borrow.Author.Tests.{le-leb, lt-ltb, eq-eqb}
use Rattle.stage.specs.Floats.{plus_zero}
use Rattle.stage.specs.Length.{LONGEST}
use Rattle.stage.specs.Layout.{pairs, over}
use Rattle.stage.specs.Run.{outs, end}
use Rattle.stage.specs.Into.{number_into, refused_put, ran_into}
use Rattle.stage.proofs.Refusals.{run_gives}
use Rattle.stage.proofs.Run.{length_outs}
use Rattle.stage.proofs.Layouts.{length_pairs}
use Rattle.stage.proofs.Filling.{length_counted}
use Rattle.converter.specs.Convert.{samples, refusal_of, converted}
use Rattle.lowpass.specs.Lowpass.{lowpass}
use Rattle.fir.specs.Filter.{count_of, next_phase, kept, outputs}
use Rattle.decimator.specs.Making.{cutoff_for, with_factor_refusal, made_with_factor}
use Rattle.decimator.specs.Process.{process_refusal, processed}
use Rattle.decimator.specs.declared.Decimator.{Decimator}
use Rattle.decimator.specs.declared.Decimated.{Decimated}
use Rattle.fm.specs.State.{setting_met, state_met}
use Rattle.fm.specs.Step.{fm_answer}
use Rattle.fm.specs.Process.{put, fm_stage, process_into}
use Rattle.fm.specs.declared.FmDemodulator.{FmDemodulator}
use Rattle.fm.specs.declared.FmDone.{FmDone}
use Rattle.receiver.specs.Sound.{thinned}

-- what fills a slice leaves nothing of it
pub all_over : {X : Type 0} (os old : List X) → length os ≡ length old → over os old ≡ os
all_over os old e =
    let past : length old ≤ length os = omega arith in
    rw (drop_of_length-le old past) (append-nil os)

-- `with_factor(10)`
module _ (taps history : List Float) (t : length taps ≡ 121) (h : length history ≡ 120) where
  pub half_made : (r : Decimated) (taps' history' : List Float) → (r, taps', history') ≡ made_with_factor 10 taps history
      → (taps' ≡ lowpass (length taps) (cutoff_for 10)) × (history' ≡ replicate (length history) plus_zero)
  half_made r taps' history' is =
      let none : with_factor_refusal 10 (length taps) (length history) ≡ 0 = rw (t, h) in
      let gives = is ∙ sym (run_gives (with_factor_refusal 10 (length taps) (length history)) _ _ none) in
      (ap {B = List Float} (λ p. p.1) gives, ap {B = List Float} (λ p. p.2) gives)

-- `convert`
pub all_converted : (src : List ℕ) (dst : List Float) → length dst ≡ length src → length src % 2 ≡ 0 → length src ≤ LONGEST
    → (n : ℕ) (dst' : List Float) → (n, dst') ≡ converted samples src dst → dst' ≡ samples src
all_converted src dst same whole short n dst' is =
    let none : refusal_of (length src) (length dst) ≡ 0 = rw (same, le-leb (length src) LONGEST short, whole, eq-eqb (length src) (length src) refl) in
    ap {B = List Float} (λ p. p.1) is ∙ sym (run_gives (refusal_of (length src) (length dst)) (samples src) dst none)

-- a half, filtered and thinned out
pub thinned_length : (taps : List Float) (phase : ℕ) (history xs : List Float) → length (thinned taps phase history xs) ≡ count_of 10 phase (length xs)
unfolding outputs
thinned_length taps phase history xs = length_counted _ 0 (count_of 10 phase (length xs))

module _ (phase : ℕ) (taps history input output : List Float) (low : phase < 10) (t : length taps ≡ 121) (h : length history ≡ 120)
    (short : length input ≤ LONGEST) (room : length output ≡ count_of 10 phase (length input)) where
  pub half_thinned : (r : Decimated) (history' output' : List Float) → (r, history', output') ≡ processed (record { factor = 10; phase = phase }) taps history input output
      → (r.state.phase ≡ next_phase 10 phase (length input)) × (history' ≡ kept history input) × (output' ≡ thinned taps phase history input)
  half_thinned r history' output' is =
      let d : Decimator = record { factor = 10; phase = phase } in
      let none : process_refusal d (length taps) (length history) (length input) (length output) ≡ 0 =
      rw (t, h, lt-ltb phase 10 low, le-leb (length input) LONGEST short, le-leb (count_of 10 phase (length input)) (length output) (omega arith)) in
      let gives = is ∙ sym (run_gives (process_refusal d (length taps) (length history) (length input) (length output)) _ _ none) in (
        ap {B = ℕ} (λ p. p.0.state.phase) gives,
        ap {B = List Float} (λ p. p.1) gives,
        ap {B = List Float} (λ p. p.2) gives
            ∙ all_over (thinned taps phase history input) output (thinned_length taps phase history input ∙ sym room),
      )

-- FM
module _ (s : FmDemodulator) (input output : List Float) (set : setting_met s ≡ true) (fin : state_met s ≡ true) (whole : length input % 2 ≡ 0)
    (short : length input ≤ LONGEST) (room : length output ≡ length input / 2) where
  pub demodulated : (r : FmDone) (output' : List Float) → put r output' ≡ process_into s input output
      → (r.state ≡ end fm_answer s (pairs input)) × (output' ≡ outs fm_answer plus_zero s (pairs input))
  demodulated r output' is =
      let number = number_into fm_stage s (length input) (length output) in
      let none : number ≡ 0 = rw (set, fin, le-leb (length input) LONGEST short, whole, le-leb (length input / 2) (length output) (omega arith)) in
      let gives = is ∙ sym (run_gives number (ran_into fm_stage s input output) (refused_put number s output) none) in (
        ap {B = FmDemodulator} (λ p. p.state) gives,
        ap {B = List Float} (λ p. p.left) gives
            ∙ all_over (outs fm_answer plus_zero s (pairs input)) output (length_outs fm_answer plus_zero s (pairs input) ∙ length_pairs input ∙ sym room),
      )
