-- Demand 3 of the filters: damage passes. Definitions only.
use Rattle.std.specs.Prelude.{ℕ, ◌+◌, ◌-◌, ◌*◌, ◌≤◌, ◌<◌, ◌≡◌, ◌⊎◌, List, get_or}

-- Two streams of n samples each that differ only at positions a to b - 1, through one filter, whose output j is taken at position j x factor: what each put
-- out, in a row, and what each hands on at its end. Every output that is taken before a, or at b + taps - 1 or later, is the same in both; and where taps - 1
-- samples or more follow the damage, so is the end. (`none` stands for an output past the last: there is none in the one stream where there is none in the other.)
pub record DamagePasses {Y S : Type 0} (taps factor a b n : ℕ) (outs outs' : List Y) (end end' : S) : Type 0 where
  pub outputs : (j : ℕ) (none : Y) → (j * factor < a) ⊎ (b + (taps - 1) ≤ j * factor) → get_or outs j none ≡ get_or outs' j none
  pub ends : b + (taps - 1) ≤ n → end ≡ end'
