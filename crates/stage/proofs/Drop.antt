-- Dropping the samples that a run strikes changes no other output and not the state at the end, and then none is struck. Assumes nothing.
use Prim.Native.Nat.{◌+◌, ◌≤◌}
use native.Mathlib.Nat.{zero-add}
use native.Mathlib.Omega.{arith}
use mathlib.Core.Path.{◌≡◌, refl, ap, ◌∙◌}
use mathlib.Core.List.{List, [], ◌∷◌}
use lib.ListN.{length}
use Rattle.stage.specs.Run.{Answer, struck, kept, out_of, after, tick, outs, end, strikes}
use Rattle.stage.specs.Drop.{is_kept, pick, marks, sift}

module _ {A B S : Type 0} (step : S → A → Answer B S) where
  -- the outputs of the kept samples alone are the outputs at their places
  pub outs_sift : (silence : B) (s : S) (xs : List A) → outs step silence s (sift step s xs) ≡ pick (marks step s xs) (outs step silence s xs)
  outs_sift silence s [] = refl
  outs_sift silence s (x ∷ xs) = go (step s x) refl (λ t. outs_sift silence t xs)
    where
      go : (a : Answer B S) → step s x ≡ a
          → ((t : S) → outs step silence t (sift step t xs) ≡ pick (marks step t xs) (outs step silence t xs))
          → outs step silence s (pick (is_kept a ∷ marks step (after s a) xs) (x ∷ xs))
          ≡ pick (is_kept a ∷ marks step (after s a) xs) (out_of silence a ∷ outs step silence (after s a) xs)
      go struck e rest = rest s
      go (kept o t) e rest = rw e (ap {B = List B} (λ os. o ∷ os) (rest t))

  pub end_sift : (s : S) (xs : List A) → end step s (sift step s xs) ≡ end step s xs
  end_sift s [] = refl
  end_sift s (x ∷ xs) = go (step s x) refl (λ t. end_sift t xs)
    where
      go : (a : Answer B S) → step s x ≡ a → ((t : S) → end step t (sift step t xs) ≡ end step t xs)
          → end step s (pick (is_kept a ∷ marks step (after s a) xs) (x ∷ xs)) ≡ end step (after s a) xs
      go struck e rest = rest s
      go (kept o t) e rest = ap (λ (a : Answer B S). end step (after s a) (sift step t xs)) e ∙ rest t

  pub strikes_sift : (s : S) (xs : List A) → strikes step s (sift step s xs) ≡ 0
  strikes_sift s [] = refl
  strikes_sift s (x ∷ xs) = go (step s x) refl (λ t. strikes_sift t xs)
    where
      go : (a : Answer B S) → step s x ≡ a → ((t : S) → strikes step t (sift step t xs) ≡ 0)
          → strikes step s (pick (is_kept a ∷ marks step (after s a) xs) (x ∷ xs)) ≡ 0
      go struck e rest = rest s
      go (kept o t) e rest = rw e (zero-add _ ∙ rest t)

  -- each sample is kept or struck
  pub length_sift : (s : S) (xs : List A) → length (sift step s xs) + strikes step s xs ≡ length xs
  length_sift s [] = refl
  length_sift s (x ∷ xs) = go (step s x) (λ t. length_sift t xs)
    where
      go : (a : Answer B S) → ((t : S) → length (sift step t xs) + strikes step t xs ≡ length xs)
          → length (pick (is_kept a ∷ marks step (after s a) xs) (x ∷ xs)) + (tick a + strikes step (after s a) xs) ≡ length (x ∷ xs)
      go struck rest = omega (arith, rest s)
      go (kept o t) rest = omega (arith, rest t)

  -- so at most as many are struck as there are samples
  pub strikes_le : (s : S) (xs : List A) → strikes step s xs ≤ length xs
  strikes_le s xs = omega (arith, length_sift s xs)
