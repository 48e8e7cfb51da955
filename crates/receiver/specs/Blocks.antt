-- A stream received block by block. Definitions only.
use Rattle.std.specs.Prelude.{ℕ, ◌+◌, ◌≡◌, true, List, [], ◌∷◌, ◌++◌, length, Float}
use Rattle.stage.specs.Length.{is_even}
use Rattle.receiver.specs.Sound.{Memory, sound, after}

-- the stream that blocks are cut from
abbrev pub joined : List (List ℕ) → List ℕ
joined [] = []
joined (b ∷ bs) = b ++ joined bs

-- no pair is torn
abbrev pub Whole : List (List ℕ) → Type 0
Whole [] = Unit
Whole (b ∷ bs) = (is_even (length b) ≡ true) × Whole bs

-- histories of taps less one
pub record Fits (taps : List Float) (m : Memory) : Type 0 where
  pub i : length taps ≡ length m.i + 1
  pub q : length taps ≡ length m.q + 1

module _ (taps : List Float) where
  -- the sound of the blocks in a row, each from where the one before ended
  abbrev pub sound_in_blocks : Memory → List (List ℕ) → List ℕ
  sound_in_blocks m [] = []
  sound_in_blocks m (b ∷ bs) = sound taps m b ++ sound_in_blocks (after taps m b) bs
