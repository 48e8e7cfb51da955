-- The rule of document 01, "Five numbers", on the lengths of a demodulator's slices. Definitions only.
use Rattle.std.specs.Prelude.{ℕ, Bool, ◌&&◌, eqb}
use Rattle.fir.specs.Filter.{history_fits}

-- 65 taps, a history of Q of taps less one, a history of I of 32
abbrev pub lengths_fit : ℕ → ℕ → ℕ → Bool
lengths_fit taps q_history i_history = eqb taps 65 && history_fits taps q_history && eqb i_history 32
