-- The samples that a run keeps, as if the struck ones had never come. Definitions only.
use Rattle.std.specs.Prelude.{Bool, true, false, List, [], ◌∷◌}
use Rattle.stage.specs.Run.{Answer, struck, kept, after}

abbrev pub is_kept : {B S : Type 0} → Answer B S → Bool
is_kept struck = false
is_kept (kept o t) = true

-- the elements at the places that are marked true
abbrev pub pick : {X : Type 0} → List Bool → List X → List X
pick [] xs = []
pick (b ∷ bs) [] = []
pick (true ∷ bs) (x ∷ xs) = x ∷ pick bs xs
pick (false ∷ bs) (x ∷ xs) = pick bs xs

module _ {A B S : Type 0} (step : S → A → Answer B S) where
  -- of each sample, whether the run from s keeps it
  abbrev pub marks : S → List A → List Bool
  marks s [] = []
  marks s (x ∷ xs) = is_kept (step s x) ∷ marks (after s (step s x)) xs

  -- the samples that it keeps
  abbrev pub sift : S → List A → List A
  sift s xs = pick (marks s xs) xs
