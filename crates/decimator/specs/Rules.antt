-- The rules of document 01 on a decimator: its settings. Definitions only.
use Rattle.std.specs.Prelude.{ℕ, Bool, ◌&&◌, leb, ltb}
use Rattle.lowpass.specs.Rules.{taps_allowed}
use Rattle.decimator.specs.declared.Decimator.{Decimator}

-- factor 2 to 64
abbrev pub factor_allowed : ℕ → Bool
factor_allowed factor = leb 2 factor && leb factor 64

-- of a decimator that is handed in: its factor, its phase below factor, and its number of taps
abbrev pub state_allowed : Decimator → ℕ → Bool
state_allowed d taps = factor_allowed d.factor && ltb d.phase d.factor && taps_allowed taps
