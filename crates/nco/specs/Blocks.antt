-- The mixing's blocks: what a place in the slice leads to, and a pair before it is narrowed. Definitions only.
use Rattle.std.specs.Prelude.{ℕ, List, ◌++◌, take, drop, Float}
use Rattle.std.specs.Float.{binary64}
use Rattle.std.specs.Float.Ieee.{add, mul, neg}
use Rattle.stage.specs.Floats.{plus_zero}
use Rattle.stage.specs.Run.{outs, end}
use Rattle.stage.specs.Layout.{pairs, flat}
use Rattle.nco.specs.declared.Nco.{Nco}
use Rattle.nco.specs.declared.turn.Turn.{Turn}
use Rattle.nco.specs.Mix.{spin}

-- a mixed pair, before it is narrowed
abbrev pub wide_at : Turn → Float × Float → Float × Float
wide_at t p = (add binary64 (mul binary64 p.0 t.cosine) (mul binary64 p.1 t.sine), add binary64 (mul binary64 (neg p.0) t.sine) (mul binary64 p.1 t.cosine))

-- the slice and the turn once the mixing is through, from the element k on
unfoldable pub ahead : Nco → List Float → ℕ → Turn → List Float × Turn
ahead s xs k t = (take k xs ++ flat (outs (spin s) (plus_zero, plus_zero) t (pairs (drop k xs))), end (spin s) t (pairs (drop k xs)))
