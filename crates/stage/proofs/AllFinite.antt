-- Laws of a list of finite floats: one more at its end. Assumes nothing.
use mathlib.Core.Path.{◌≡◌, refl, ap, ◌∙◌}
use mathlib.Core.Bool.{Bool, true, false, ◌&&◌}
use mathlib.Core.List.{List, [], ◌∷◌, ◌++◌}
use lib.Ieee.{Float}
use lib.Ieee.Scale.{finite}
use Rattle.stage.specs.Floats.{all_finite}

and_end : (b : Bool) → (b && true) ≡ b
and_end true = refl
and_end false = refl

and_later : (a b c : Bool) → (a && (b && c)) ≡ ((a && b) && c)
and_later true b c = refl
and_later false b c = refl

pub all_snoc : (xs : List Float) (x : Float) → all_finite (xs ++ (x ∷ [])) ≡ (all_finite xs && finite x)
all_snoc [] x = and_end (finite x)
all_snoc (y ∷ xs) x = ap (λ (b : Bool). finite y && b) (all_snoc xs x) ∙ and_later (finite y) (all_finite xs) (finite x)
