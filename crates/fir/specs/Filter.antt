-- A filter: each output is taken from a window of the samples, and the windows lie `factor` apart.
-- X is a sample, or a pair of them, and Y what is put out for a window. Definitions only.
use Rattle.std.specs.Prelude.{ℕ, ◌+◌, ◌-◌, ◌*◌, ◌/◌, Bool, List, ◌++◌, eqb, length, take, drop}
use Rattle.stage.specs.Counted.{counted}

pub record Filter (X Y : Type 0) : Type 0 where
  pub taps : ℕ
  pub factor : ℕ
  pub weigh : List X → Y

-- how many outputs n samples give, where the first is taken after `phase` of them: ceil(max(0, n - phase) / factor)
unfoldable pub count_of : ℕ → ℕ → ℕ → ℕ
count_of factor phase n = (n - phase + (factor - 1)) / factor

-- how many samples of the next block come before its first output; a block not longer than phase gives none, and phase drops by n
unfoldable pub next_phase : ℕ → ℕ → ℕ → ℕ
next_phase factor phase n = phase + count_of factor phase n * factor - n

-- a history is taps less one
abbrev pub history_fits : ℕ → ℕ → Bool
history_fits taps history = eqb (history + 1) taps

-- the history after a block: the last of history and input in a row, as many as before
unfoldable pub kept : {X : Type 0} → List X → List X → List X
kept history input = drop (length input) (history ++ input)

-- what a filter remembers from one block to the next
pub record Memory (X : Type 0) : Type 0 where
  pub phase : ℕ
  pub history : List X

module _ {X Y : Type 0} (f : Filter X Y) where
  -- the output of the window that begins at place `at`: as many samples as there are taps
  unfoldable pub output_at : List X → ℕ → Y
  output_at xs at = f.weigh (take f.taps (drop at xs))

  -- the first k outputs: the window of output j begins at phase + j x factor
  unfoldable pub outputs : ℕ → List X → ℕ → List Y
  outputs phase xs k = counted (λ j. output_at xs (phase + j * f.factor)) k

  -- a run over a block or a stream: its outputs, whose windows reach back into the history
  abbrev pub filter_outs : Memory X → List X → List Y
  filter_outs s input = outputs s.phase (s.history ++ input) (count_of f.factor s.phase (length input))

  -- and what it remembers then
  abbrev pub filter_end : Memory X → List X → Memory X
  filter_end s input = record { phase = next_phase f.factor s.phase (length input); history = kept s.history input }
