-- What a step takes of the sample alone can be worked out for all samples before the run. Assumes nothing.
use Prim.Native.Nat.{ℕ, ◌+◌}
use mathlib.Core.Path.{◌≡◌, refl, ap}
use mathlib.Core.List.{List, [], ◌∷◌, map}
use Rattle.stage.specs.Run.{Answer, out_of, after, tick, outs, end, strikes}

-- `step` looks at a sample only through `of`
module _ {A C B S : Type 0} (step : S → A → Answer B S) (inner : S → C → Answer B S) (of : A → C)
    (only : (s : S) (x : A) → step s x ≡ inner s (of x)) where
  pub outs_alone : (silence : B) (s : S) (xs : List A) → outs step silence s xs ≡ outs inner silence s (map of xs)
  outs_alone silence s [] = refl
  outs_alone silence s (x ∷ xs) = rw (only s x) (ap {B = List B} (λ os. out_of silence (inner s (of x)) ∷ os) (outs_alone silence (after s (inner s (of x))) xs))

  pub end_alone : (s : S) (xs : List A) → end step s xs ≡ end inner s (map of xs)
  end_alone s [] = refl
  end_alone s (x ∷ xs) = rw (only s x) (end_alone (after s (inner s (of x))) xs)

  pub strikes_alone : (s : S) (xs : List A) → strikes step s xs ≡ strikes inner s (map of xs)
  strikes_alone s [] = refl
  strikes_alone s (x ∷ xs) = rw (only s x) (ap (λ (n : ℕ). tick (inner s (of x)) + n) (strikes_alone (after s (inner s (of x))) xs))
