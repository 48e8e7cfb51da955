-- The planes and the lanes: neighbouring outputs side by side. No public contract cites it. Definitions only.
use Rattle.std.specs.Prelude.{ℕ, ◌+◌, ◌*◌, ◌≤◌, ◌<◌, ◌≡◌, List, length, get_or, Float}
use Rattle.std.specs.Float.{nan, binary32}
use Rattle.std.specs.Float.Ieee.{add, mul}
use Rattle.fir.specs.Written.{dot_at, odd_at}

-- the planes before place m: sample k x factor + p stands at place p x 128 + k, so that neighbouring outputs' samples are neighbours
abbrev pub Upto : List Float → List Float → ℕ → ℕ → Type 0
Upto z x factor m =
    (p k : ℕ) → p < factor → k < 128 → p * 128 + k < m → k * factor + p < length x → get_or z (p * 128 + k) nan ≡ get_or x (k * factor + p) nan

-- n samples are what the windows of m outputs span
abbrev pub Spans : ℕ → ℕ → ℕ → ℕ → Type 0
Spans n factor m taps = n + factor ≡ m * factor + taps

-- one tap of n lanes: each adds its own sample times the tap
abbrev pub Turned : ℕ → List Float → List Float → ℕ → ℕ → Float → List Float → Type 0
Turned n acc x place step tap acc' = (l : ℕ) → l < n → get_or acc' l nan ≡ add binary32 (get_or acc l nan) (mul binary32 (get_or x (place + l * step) nan) tap)

-- 32 outputs, from output q of the samples x: those whose windows lie in x
abbrev pub Summed : List Float → List Float → ℕ → ℕ → List Float → Type 0
Summed taps x factor q r = (l : ℕ) → l < 32 → (q + l) * factor + length taps ≤ length x → get_or r l nan ≡ dot_at taps x ((q + l) * factor)

-- 32 outputs over the odd taps, the first of the window at o
abbrev pub OddSummed : List Float → List Float → ℕ → List Float → Type 0
OddSummed taps x o r = (l : ℕ) → l < 32 → get_or r l nan ≡ odd_at taps x (o + l)

-- what is given for g, of n outputs: the 32 values from g on, as far as there are outputs
abbrev pub Gives : (ℕ → List Float → Type 0) → (ℕ → Float) → ℕ → Type 0
Gives post v n = (g : ℕ) (r : List Float) → g < n → post g r → (length r ≡ 32) × ((l : ℕ) → l < 32 → g + l < n → get_or r l nan ≡ v (g + l))
