-- A run under way: what a stage's loop knows between two turns, whatever the layout of its samples. Assumes nothing.
use Prim.Native.Nat.{ℕ, ◌+◌, ◌≤◌}
use native.Mathlib.Nat.{zero-add, add-zero, add_assoc}
use native.Mathlib.Omega.{arith}
use mathlib.Core.Path.{◌≡◌, refl, sym, ap, ◌∙◌}
use mathlib.Core.List.{List, [], ◌∷◌, ◌++◌, append_assoc, append-nil}
use Rattle.stage.specs.Run.{Answer, struck, kept, out_of, after, tick, outs, end, strikes}
use Rattle.stage.proofs.Cut.{outs_cut, end_cut, strikes_cut}

-- the struck count n after one more answer
abbrev pub tally : {B S : Type 0} → ℕ → Answer B S → ℕ
tally n struck = n + 1
tally n (kept o t) = n

module _ {B S : Type 0} where
  tally_tick : (n : ℕ) (a : Answer B S) → n + tick a ≡ tally n a
  tally_tick n struck = refl
  tally_tick n (kept o t) = add-zero n

  -- a count that is at most the turns made stays so, and never wraps
  pub tally_le : {n i : ℕ} (a : Answer B S) → n ≤ i → tally n a ≤ i + 1
  tally_le struck h = omega arith
  tally_le (kept o t) h = omega arith

module _ {A B S : Type 0} (step : S → A → Answer B S) (silence : B) where
  -- The run over xs₀ from s₀ has put out `os`, has `rest` to go, and stands at the state s with n struck
  pub record Going (s₀ : S) (xs₀ : List A) (os : List B) (rest : List A) (s : S) (n : ℕ) : Type 0 where
    pub outs_all : os ++ outs step silence s rest ≡ outs step silence s₀ xs₀
    pub end_all : end step s rest ≡ end step s₀ xs₀
    pub strikes_all : n + strikes step s rest ≡ strikes step s₀ xs₀

  pub going_begins : (s : S) (xs : List A) → Going s xs [] xs s 0
  going_begins s xs = record { outs_all = refl; end_all = refl; strikes_all = zero-add _ }

  -- it goes on by a whole block
  pub going_by_block : {s₀ : S} {xs₀ : List A} {os : List B} (xs : List A) {rest : List A} {s : S} {n : ℕ} → Going s₀ xs₀ os (xs ++ rest) s n
      → Going s₀ xs₀ (os ++ outs step silence s xs) rest (end step s xs) (n + strikes step s xs)
  going_by_block {os = os} xs {rest} {s} {n} g =
      record {
        outs_all = append_assoc os _ _ ∙ ap {B = List B} (λ r. os ++ r) (sym (outs_cut step silence s xs rest)) ∙ g.outs_all;
        end_all = sym (end_cut step s xs rest) ∙ g.end_all;
        strikes_all = add_assoc n _ _ ∙ ap (λ (k : ℕ). n + k) (sym (strikes_cut step s xs rest)) ∙ g.strikes_all;
      }

  -- and by one sample, to which the step answers a
  pub going_by_one : {s₀ : S} {xs₀ : List A} {os : List B} {x : A} {rest : List A} {s : S} {n : ℕ} {a : Answer B S} → step s x ≡ a
      → Going s₀ xs₀ os (x ∷ rest) s n → Going s₀ xs₀ (os ++ (out_of silence a ∷ [])) rest (after s a) (tally n a)
  going_by_one {x = x} {n = n} {a} e g =
      rw (← tally_tick n a, ← e) (rw add-zero at (going_by_block (x ∷ []) g))

  pub going_ends : {s₀ : S} {xs₀ : List A} {os : List B} {s : S} {n : ℕ} → Going s₀ xs₀ os [] s n
      → (os ≡ outs step silence s₀ xs₀) × (s ≡ end step s₀ xs₀) × (n ≡ strikes step s₀ xs₀)
  going_ends {os = os} {n = n} g = (sym (append-nil os) ∙ g.outs_all, g.end_all, sym (add-zero n) ∙ g.strikes_all)
