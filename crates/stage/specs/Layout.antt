-- How samples lie in slices: pairs interleaved in one or side by side in two, and a slice whose first places, or all, are written. Definitions only.
use Rattle.std.specs.Prelude.{List, [], ◌∷◌, ◌++◌, cond, eqb, length, drop}

module _ {X : Type 0} where
  -- an interleaved list taken two at a time; an odd last element is left out
  abbrev pub pairs : List X → List (X × X)
  pairs [] = []
  pairs (x ∷ []) = []
  pairs (x ∷ y ∷ r) = (x, y) ∷ pairs r

  -- pairs written interleaved
  abbrev pub flat : List (X × X) → List X
  flat [] = []
  flat (p ∷ ps) = p.0 ∷ p.1 ∷ flat ps

  -- two lists side by side, to the end of the shorter
  abbrev pub zip : List X → List X → List (X × X)
  zip [] ys = []
  zip (x ∷ xs) [] = []
  zip (x ∷ xs) (y ∷ ys) = (x, y) ∷ zip xs ys

  -- and back, the one and the other
  abbrev pub firsts : List (X × X) → List X
  firsts [] = []
  firsts (p ∷ ps) = p.0 ∷ firsts ps

  abbrev pub seconds : List (X × X) → List X
  seconds [] = []
  seconds (p ∷ ps) = p.1 ∷ seconds ps

  -- a slice that was `old`, once `os` is written at its start: the places after it stay
  abbrev pub over : List X → List X → List X
  over os old = os ++ drop (length os) old

  -- a slice that was `old`, once `xs` is written to all of it; one that has not as many places stays
  abbrev pub copied : List X → List X → List X
  copied xs old = cond (eqb (length xs) (length old)) xs old
