-- A stream handed to a stage call by call, each from the state that the one before handed on. Definitions only.
-- C is a call, S what is handed from one call to the next, X a sample of the input, Y an output.
use Rattle.std.specs.Prelude.{ℕ, ◌≡◌, List, [], ◌∷◌, ◌++◌}
use Rattle.stage.specs.Refusal.{NONE}

-- what a call gives: its number, what it wrote, and what it hands on
pub record Given (S Y : Type 0) : Type 0 where
  pub refusal : ℕ
  pub out : List Y
  pub end : S

-- all the input, in a row
abbrev pub inputs : {C X : Type 0} → (C → List X) → List C → List X
inputs input [] = []
inputs input (c ∷ cs) = input c ++ inputs input cs

module _ {C S Y : Type 0} (gives : S → C → Given S Y) where
  -- what the calls wrote, in a row
  abbrev pub call_outs : S → List C → List Y
  call_outs s [] = []
  call_outs s (c ∷ cs) = (gives s c).out ++ call_outs (gives s c).end cs

  -- what the last hands on
  abbrev pub call_end : S → List C → S
  call_end s [] = s
  call_end s (c ∷ cs) = call_end (gives s c).end cs

  -- none of them is refused
  abbrev pub Accepted : S → List C → Type 0
  Accepted s [] = Unit
  Accepted s (c ∷ cs) = ((gives s c).refusal ≡ NONE) × Accepted (gives s c).end cs
