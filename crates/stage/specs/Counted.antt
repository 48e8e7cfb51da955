-- A list worked out place by place. Definitions only.
use Rattle.std.specs.Prelude.{ℕ, zero, suc, List, [], ◌∷◌}

-- f i, f (i + 1), .., as many as n says
abbrev pub counted_from : {X : Type 0} → (ℕ → X) → ℕ → ℕ → List X
counted_from f i zero = []
counted_from f i (suc n) = f i ∷ counted_from f (suc i) n

-- f 0, f 1, .., f (n - 1)
abbrev pub counted : {X : Type 0} → (ℕ → X) → ℕ → List X
counted f n = counted_from f 0 n
