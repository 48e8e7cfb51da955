-- The angle of each pair by its place: no public contract cites it. Definitions only.
use Rattle.std.specs.Prelude.{ℕ, ◌+◌, ◌*◌, List, Float}
use Rattle.angle.specs.Lanes.{lane}
use Rattle.fm.specs.Step.{angle_of}

-- the angle of pair j of interleaved samples
abbrev pub angle_at : List Float → ℕ → Float
angle_at input j = angle_of (lane input (2 * j), lane input (2 * j + 1))
