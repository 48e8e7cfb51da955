-- A stream cut into blocks, and a stage that runs block after block, each from the state that the one before handed on. Definitions only.
use Rattle.std.specs.Prelude.{ℕ, ◌+◌, ◌≡◌, true, List, [], ◌∷◌, ◌++◌, length}
use Rattle.stage.specs.Length.{is_even}
use Rattle.stage.specs.Run.{Answer, outs, end, strikes}

-- the blocks in a row
abbrev pub stream : {A : Type 0} → List (List A) → List A
stream [] = []
stream (b ∷ bs) = b ++ stream bs

-- each block is whole pairs
abbrev pub WholePairs : {X : Type 0} → List (List X) → Type 0
WholePairs [] = Unit
WholePairs (b ∷ bs) = (is_even (length b) ≡ true) × WholePairs bs

module _ {A B S : Type 0} (step : S → A → Answer B S) where
  -- the outputs of the blocks in a row
  abbrev pub block_outs : B → S → List (List A) → List B
  block_outs silence s [] = []
  block_outs silence s (b ∷ bs) = outs step silence s b ++ block_outs silence (end step s b) bs

  -- the state after the last block
  abbrev pub block_end : S → List (List A) → S
  block_end s [] = s
  block_end s (b ∷ bs) = block_end (end step s b) bs

  -- the sum of the blocks' struck counts
  abbrev pub block_strikes : S → List (List A) → ℕ
  block_strikes s [] = 0
  block_strikes s (b ∷ bs) = strikes step s b + block_strikes (end step s b) bs
