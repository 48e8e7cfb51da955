-- A stream handed to a stage in calls one after the other, each with the state that the one before gave back. Definitions only.
use Rattle.std.specs.Prelude.{◌+◌, ◌≡◌, true, List, [], ◌∷◌}
use Rattle.stage.specs.Refusal.{NONE, SETTING, STATE}
use Rattle.stage.specs.Lent.{Lent}
use Rattle.stage.specs.Stage.{Stage}
use Rattle.stage.specs.Call.{Given, call}

module _ {A X : Type 0} (l : Lent A X) where
  -- the parts in a row
  abbrev pub joined : List X → X
  joined [] = l.lay []
  joined (x ∷ xs) = l.join x (joined xs)

  -- no pair is torn between two parts
  abbrev pub Whole : List X → Type 0
  Whole [] = Unit
  Whole (x ∷ xs) = (l.whole x ≡ true) × Whole xs

  -- each part meets the demands on what is lent
  abbrev pub Fit : List X → Type 0
  Fit [] = Unit
  Fit (x ∷ xs) = (l.within x ≡ true) × (l.even x ≡ true) × Fit xs

-- one answer for two calls in a row: the later state, the struck counts added, what is left joined
abbrev pub both : {A S X : Type 0} → Lent A X → Given S X → Given S X → Given S X
both l a b = record { refusal = NONE; state = b.state; struck = a.struck + b.struck; left = l.join a.left b.left }

-- on nothing that it is lent does the call refuse this state with SETTING or STATE
abbrev pub Taken : {S X : Type 0} → (S → X → Given S X) → S → Type 0
Taken {X = X} call s = (x : X) → ((call s x).refusal ≡ SETTING → ⊥) × ((call s x).refusal ≡ STATE → ⊥)

module _ {A S X : Type 0} (g : Stage A A S) (l : Lent A X) where
  -- no call is refused
  abbrev pub Accepted : S → List X → Type 0
  Accepted s [] = Unit
  Accepted s (x ∷ xs) = ((call g l s x).refusal ≡ NONE) × Accepted (call g l s x).state xs

  -- all that the calls give
  abbrev pub calls : S → List X → Given S X
  calls s [] = record { refusal = NONE; state = s; struck = 0; left = l.lay [] }
  calls s (x ∷ xs) = both l (call g l s x) (calls (call g l s x).state xs)
