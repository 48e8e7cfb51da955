-- A run over a block cut in two is the run over its first part and then, from the state handed on, over the second. Assumes nothing.
use Prim.Native.Nat.{ℕ, ◌+◌}
use native.Mathlib.Nat.{zero-add, add_assoc}
use mathlib.Core.Path.{◌≡◌, refl, sym, ap, ◌∙◌}
use mathlib.Core.List.{List, [], ◌∷◌, ◌++◌}
use Rattle.stage.specs.Run.{Answer, out_of, after, tick, outs, end, strikes}

module _ {A B S : Type 0} (step : S → A → Answer B S) where
  -- the outputs stand in a row
  pub outs_cut : (silence : B) (s : S) (xs ys : List A)
      → outs step silence s (xs ++ ys) ≡ outs step silence s xs ++ outs step silence (end step s xs) ys
  outs_cut silence s [] ys = refl
  outs_cut silence s (x ∷ xs) ys = ap {B = List B} (λ os. out_of silence (step s x) ∷ os) (outs_cut silence (after s (step s x)) xs ys)

  -- the state at the end is the second part's
  pub end_cut : (s : S) (xs ys : List A) → end step s (xs ++ ys) ≡ end step (end step s xs) ys
  end_cut s [] ys = refl
  end_cut s (x ∷ xs) ys = end_cut (after s (step s x)) xs ys

  -- the struck counts add up
  pub strikes_cut : (s : S) (xs ys : List A) → strikes step s (xs ++ ys) ≡ strikes step s xs + strikes step (end step s xs) ys
  strikes_cut s [] ys = sym (zero-add _)
  strikes_cut s (x ∷ xs) ys = ap (λ (n : ℕ). tick (step s x) + n) (strikes_cut (after s (step s x)) xs ys) ∙ sym (add_assoc _ _ _)
