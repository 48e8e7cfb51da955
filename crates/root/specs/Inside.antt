-- What the square root's own parts promise each other. No public contract cites it. Definitions only.
use Rattle.std.specs.Prelude.{◌≡◌, ℕ, ◌+◌, ◌-◌, ◌*◌, ◌%◌, ◌^◌, ◌≤◌, ◌<◌}

-- r is the largest whole number whose square is at most n
abbrev pub IsRoot : ℕ → ℕ → Type 0
IsRoot n r = (r * r ≤ n) × (n < (r + 1) * (r + 1))

-- m * 2 ^ j has 47 or 48 binary digits, and what is left of 2 ^ (e + 149) is a square
pub record Scaled (m e j : ℕ) : Type 0 where
  pub least : 2 ^ 46 ≤ m * 2 ^ j
  pub most : m * 2 ^ j < 2 ^ 48
  pub few : j ≤ 47
  pub even : (e + 149 - j) % 2 ≡ 0
