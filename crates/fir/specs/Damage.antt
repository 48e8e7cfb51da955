-- Damage to a stream: where two streams differ, and which outputs do not see it. Definitions only.
use Rattle.std.specs.Prelude.{ℕ, ◌+◌, ◌-◌, ◌≤◌, ◌<◌, ◌≡◌, ◌⊎◌, List, length, take, drop}

-- two streams of one length that differ only at positions a to b - 1
pub record DifferWithin {X : Type 0} (a b : ℕ) (x y : List X) : Type 0 where
  pub long : length x ≡ length y
  pub before : take a x ≡ take a y
  pub behind : drop b x ≡ drop b y

-- a window of `taps` samples that ends at position p sees none of the positions a to b - 1
abbrev pub Unseen : ℕ → ℕ → ℕ → ℕ → Type 0
Unseen taps a b p = (p < a) ⊎ (b + (taps - 1) ≤ p)
