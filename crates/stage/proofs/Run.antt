-- Laws of a run: one output for each sample, and what each kept step keeps the run keeps. Assumes nothing.
use Prim.Native.Nat.{suc}
use mathlib.Core.Path.{◌≡◌, refl, ap}
use mathlib.Core.List.{List, [], ◌∷◌}
use lib.ListN.{length}
use Rattle.stage.specs.Run.{Answer, struck, kept, after, outs, end}

module _ {A B S : Type 0} (step : S → A → Answer B S) where
  pub length_outs : (silence : B) (s : S) (xs : List A) → length (outs step silence s xs) ≡ length xs
  length_outs silence s [] = refl
  length_outs silence s (x ∷ xs) = ap suc (length_outs silence (after s (step s x)) xs)

  -- what each kept step keeps, a run keeps
  pub end_keeps : (P : S → Type 0) → ((s : S) (x : A) (o : B) (t : S) → P s → step s x ≡ kept o t → P t)
      → (s : S) (xs : List A) → P s → P (end step s xs)
  end_keeps P keeps s [] p = p
  end_keeps P keeps s (x ∷ xs) p = end_keeps P keeps (after s (step s x)) xs (go (step s x) refl)
    where
      go : (a : Answer B S) → step s x ≡ a → P (after s a)
      go struck e = p
      go (kept o t) e = keeps s x o t p e
