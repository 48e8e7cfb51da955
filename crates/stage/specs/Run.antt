-- A feedback stage over a list of samples, as document 01's "Struck samples" has it.
-- A is a sample or a pair, B what is put out for one, S the state; `silence` is what a struck one puts out. Definitions only.
use Rattle.std.specs.Prelude.{ℕ, ◌+◌, List, [], ◌∷◌, Option, Some, None}

-- a step answers struck, or what it puts out and the state after it
pub data Answer (B S : Type 0) : Type 0 where
  struck : Answer B S
  kept : B → S → Answer B S

module _ {B S : Type 0} where
  -- the same as code answers it
  abbrev pub answer_of : Option (B × S) → Answer B S
  answer_of None = struck
  answer_of (Some p) = kept p.0 p.1

  -- a struck sample puts out silence
  abbrev pub out_of : B → Answer B S → B
  out_of silence struck = silence
  out_of silence (kept o t) = o

  -- and leaves the whole state as it was
  abbrev pub after : S → Answer B S → S
  after s struck = s
  after s (kept o t) = t

  -- and is counted
  abbrev pub tick : Answer B S → ℕ
  tick struck = 1
  tick (kept o t) = 0

module _ {A B S : Type 0} (step : S → A → Answer B S) where
  -- what is put out, one for each sample
  abbrev pub outs : B → S → List A → List B
  outs silence s [] = []
  outs silence s (x ∷ xs) = out_of silence (step s x) ∷ outs silence (after s (step s x)) xs

  -- the state at the end
  abbrev pub end : S → List A → S
  end s [] = s
  end s (x ∷ xs) = end (after s (step s x)) xs

  -- how many were struck
  abbrev pub strikes : S → List A → ℕ
  strikes s [] = 0
  strikes s (x ∷ xs) = tick (step s x) + strikes (after s (step s x)) xs
