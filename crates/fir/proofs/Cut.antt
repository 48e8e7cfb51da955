-- The cut law: a filter's run over a stream cut in two is the run over its first part and then, from what it remembers there, over the second.
-- It holds for any `weigh`, and by `InTurn.antt` of `stage` for any number of blocks and calls. Assumes nothing.
use Prim.Native.Nat.{ℕ, ◌+◌, ◌-◌, ◌*◌, ◌≤◌, ◌<◌}
use native.Mathlib.Nat.{add-mul, zero-add, sub-zero}
use native.Mathlib.Omega.{arith}
use mathlib.Core.Path.{◌≡◌, sym, ap, ◌∙◌}
use mathlib.Core.List.{List, [], ◌++◌, append_assoc, append-nil}
use lib.ListN.{length, take, drop, length-append, length-drop}
use lib.Seq.{drop-drop, drop-append-le, take-append-le}
use Rattle.stage.specs.Counted.{counted_from}
use Rattle.stage.proofs.InTurn.{Cuttable}
use Rattle.stage.proofs.Counted.{counted_same, counted_cut}
use Rattle.fir.specs.Filter.{Filter, Memory, count_of, next_phase, kept, output_at, outputs, filter_outs, filter_end}
use Rattle.fir.proofs.Counting.{count_none, phase_drops, count_in, count_out, count_cut, phase_cut}

-- ---- the history

module _ {X : Type 0} where
  -- the block's samples have all come in behind the history, so that the joint lies behind them
  joint : (h a : List X) → length a ≤ length (h ++ a)
  joint h a = rw length-append (omega arith)

  pub kept_length : (h a : List X) → length (kept h a) ≡ length h
  unfolding kept
  kept_length h a = simp (length-drop, length-append) (omega arith)

  pub kept_cut : (h a b : List X) → kept h (a ++ b) ≡ kept (kept h a) b
  unfolding kept
  kept_cut h a b =
      rw (← append_assoc h a b, length-append, ← drop-drop (length b) (length a) ((h ++ a) ++ b), drop-append-le (length a) (h ++ a) b (joint h a))

-- ---- the outputs

module _ {X Y : Type 0} (f : Filter X Y) where
  -- a window that ends within the first list sees no more than that
  at_front : (e b : List X) (at : ℕ) → at + f.taps ≤ length e → output_at f (e ++ b) at ≡ output_at f e at
  unfolding output_at
  at_front e b at h =
      ap f.weigh
      (ap (take f.taps) (drop-append-le at e b (omega arith)) ∙ take-append-le f.taps (drop at e) b (rw length-drop (omega arith)))

  -- one that begins behind a block sees it through the history that is kept
  at_shifted : (h a b : List X) (at : ℕ) → output_at f ((h ++ a) ++ b) (length a + at) ≡ output_at f (kept h a ++ b) at
  unfolding output_at kept
  at_shifted h a b at =
      ap {B = Y} (λ l. f.weigh (take f.taps l))
      (sym (drop-drop at (length a) ((h ++ a) ++ b)) ∙ ap (drop at) (drop-append-le (length a) (h ++ a) b (joint h a)))

  pub outputs_same : (q q' : ℕ) (e e' : List X) (k : ℕ)
      → ((j : ℕ) → j < k → output_at f e (q + j * f.factor) ≡ output_at f e' (q' + j * f.factor))
      → outputs f q e k ≡ outputs f q' e' k
  unfolding outputs
  outputs_same q q' e e' k h =
      counted_same (λ j. output_at f e (q + j * f.factor)) (λ j. output_at f e' (q' + j * f.factor)) 0 0 k (λ j lt. rw zero-add (h j lt))

  outputs_cut : (q : ℕ) (e : List X) (k₁ k₂ : ℕ) → outputs f q e (k₁ + k₂) ≡ outputs f q e k₁ ++ outputs f (q + k₁ * f.factor) e k₂
  unfolding outputs
  outputs_cut q e k₁ k₂ =
      let v : ℕ → Y = λ j. output_at f e (q + j * f.factor) in
      let w : ℕ → Y = λ j. output_at f e (q + k₁ * f.factor + j * f.factor) in
      counted_cut v 0 k₁ k₂
      ∙ ap {B = List Y} (λ l. counted_from v 0 k₁ ++ l)
      (counted_same v w (0 + k₁) 0 k₂
      (λ j lt.
      let p : q + (0 + k₁ + j) * f.factor ≡ q + k₁ * f.factor + (0 + j) * f.factor =
      rw (zero-add k₁, zero-add j) (omega (arith, add-mul k₁ j f.factor)) in
      ap (output_at f e) p))

-- ---- the law

module _ {X Y : Type 0} (f : Filter X Y) where
  -- the history is taps less one
  abbrev pub Fits : Memory X → Type 0
  Fits s = f.taps ≡ length s.history + 1

  -- no sample, no output, and nothing changes
  pub outs_of_none : (s : Memory X) → filter_outs f s [] ≡ []
  unfolding outputs
  outs_of_none s = ap (outputs f s.phase (s.history ++ [])) (count_none f.factor s.phase 0 (omega arith))

  pub end_of_none : (s : Memory X) → filter_end f s [] ≡ s
  unfolding kept
  end_of_none s i =
      record {
        phase = (phase_drops f.factor s.phase 0 (omega arith) ∙ sub-zero s.phase) i;
        history = append-nil s.history i;
      }

  module _ (pos : 0 < f.factor) where
    -- the outputs stand in a row
    pub outs_cut : (s : Memory X) (a b : List X) → Fits s → filter_outs f s (a ++ b) ≡ filter_outs f s a ++ filter_outs f (filter_end f s a) b
    unfolding next_phase
    outs_cut s a b fit =
        let d = f.factor in
        let q = s.phase in
        let h = s.history in
        let k₁ = count_of d q (length a) in
        let q₁ = q + k₁ * d - length a in
        let k₂ = count_of d q₁ (length b) in
        let e : List X = (h ++ a) ++ b in
        let n : count_of d q (length (a ++ b)) ≡ k₁ + k₂ = rw length-append (count_cut d pos q (length a) (length b)) in
        let first : outputs f q e k₁ ≡ outputs f q (h ++ a) k₁ =
        outputs_same f q q e (h ++ a) k₁
        (λ j lt. at_front f (h ++ a) b (q + j * d) (rw length-append (omega (arith, count_in d pos q (length a) j lt)))) in
        let second : outputs f (q + k₁ * d) e k₂ ≡ outputs f q₁ (kept h a ++ b) k₂ =
        outputs_same f (q + k₁ * d) q₁ e (kept h a ++ b) k₂
        (λ j lt.
        let p : q + k₁ * d + j * d ≡ length a + (q₁ + j * d) = omega (arith, count_out d pos q (length a)) in
        rw p (at_shifted f h a b (q₁ + j * d))) in
        rw (n, ← append_assoc h a b, outputs_cut f q e k₁ k₂, first, second)

    -- what is remembered at the end is the second part's
    pub end_cut : (s : Memory X) (a b : List X) → Fits s → filter_end f s (a ++ b) ≡ filter_end f (filter_end f s a) b
    end_cut s a b fit i =
        record {
          phase = (ap (next_phase f.factor s.phase) (length-append a b) ∙ phase_cut f.factor pos s.phase (length a) (length b)) i;
          history = kept_cut s.history a b i;
        }

    -- so a filter's run can be cut, into blocks and calls of any number
    pub filter_cuts : Cuttable Fits (filter_outs f) (filter_end f)
    filter_cuts = record { none_out = outs_of_none; none_end = end_of_none; cut_out = outs_cut; cut_end = end_cut }
