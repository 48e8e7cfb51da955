-- A burst: bad samples in a row. Definitions only.
use Rattle.std.specs.Prelude.{◌≡◌, false, List, [], ◌∷◌, Float}
use Rattle.std.specs.Float.Ieee.Scale.{finite}
use Rattle.stage.specs.Run.{Answer, struck}

-- each is a NaN or an infinity
abbrev pub NoneFinite : List Float → Type 0
NoneFinite [] = Unit
NoneFinite (x ∷ xs) = (finite x ≡ false) × NoneFinite xs

-- a struck sample leaves the state, so that each is struck from the same one
abbrev pub EachStruck : {A B S : Type 0} → (S → A → Answer B S) → S → List A → Type 0
EachStruck step s [] = Unit
EachStruck step s (x ∷ xs) = (step s x ≡ struck) × EachStruck step s xs
