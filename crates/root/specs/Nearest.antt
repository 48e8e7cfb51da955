-- The square root told without a method: which value of a format is the nearest to √x. Definitions only.
use Rattle.std.specs.Prelude.{ℕ, ◌+◌, ◌*◌, ◌^◌, ◌<◌, T, false, Float}
use Rattle.std.specs.Float.{Format}
use Rattle.std.specs.Float.Ieee.{low, fits}
use Rattle.std.specs.Float.Ieee.Exact.{HasValue}

-- The whole number v lies nearer to √n than the whole number w does: √n is on v's side of the middle between them, (v + w) / 2.
-- Twice √n and v + w are compared by their squares, so that no root is needed to say it. At v = w it says nothing.
abbrev pub Nearer : (n v w : ℕ) → Type 0
Nearer n v w = (v < w → 4 * n < (v + w) * (v + w)) × (w < v → (v + w) * (v + w) < 4 * n)

-- r is finite, and every other value y that the format holds, none below zero, lies further from √n than r does.
-- Values are counted in units of the format's smallest, 2 ^ -low: r is v of them, y is w of them, and n is counted in their squares.
abbrev pub NearestOf : Format → ℕ → Float → Type 0
NearestOf f n r =
    (v : ℕ) × HasValue r false v (2 ^ low f) × ((y : Float) (w : ℕ) → T (fits f y) → HasValue y false w (2 ^ low f) → Nearer n v w)
