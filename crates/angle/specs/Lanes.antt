-- Values side by side in an array, a lane for each, and four arctangents. Definitions only.
use Rattle.std.specs.Prelude.{ℕ, ◌<◌, ◌≡◌, List, [], ◌∷◌, get_or, Float}
use Rattle.std.specs.Float.{nan}
use Rattle.angle.specs.Single.{arctan32}

abbrev pub lane : List Float → ℕ → Float
lane a l = get_or a l nan

-- the first n lanes hold the values of f
abbrev pub Holds : (ℕ → Float) → List Float → ℕ → Type 0
Holds f a n = (l : ℕ) → l < n → lane a l ≡ f l

-- the values of f in four lanes
abbrev pub four : (ℕ → Float) → List Float
four f = f 0 ∷ f 1 ∷ f 2 ∷ f 3 ∷ []

-- in each lane the arctangent of (y, x)
abbrev pub arctans32 : List Float → List Float → List Float
arctans32 y x = four (λ l. arctan32 (lane y l) (lane x l))
