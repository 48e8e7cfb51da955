-- Demand 1: the five numbers of document 01's table, in its order, and what a refused call gives. Definitions only.
use Rattle.std.specs.Prelude.{ℕ, ◌≡◌, Bool, true, false, ◌↔◌, List, [], ◌∷◌}
use Rattle.stage.specs.Refusal.{NONE, SETTING, STATE, LIMIT, LENGTH, ROOM}

-- of one call, on what it is handed, whether each demand of the table is met; a call that makes no such demand says true
pub record Demands : Type 0 where
  pub setting : Bool
  pub state : Bool
  pub limit : Bool
  pub length : Bool
  pub room : Bool

abbrev pub demands : Bool → Bool → Bool → Bool → Bool → Demands
demands setting state limit length room = record { setting = setting; state = state; limit = limit; length = length; room = room }

-- each of these is met
abbrev pub Met : List Bool → Type 0
Met [] = Unit
Met (d ∷ ds) = (d ≡ true) × Met ds

-- "Checked in this order; the first that holds is given, and none is given otherwise": a number is given exactly when each demand before its own in the table is met
-- and its own is broken
pub record ByTheTable (d : Demands) (number : ℕ) : Type 0 where
  pub setting : (number ≡ SETTING) ↔ Met [] × (d.setting ≡ false)
  pub state : (number ≡ STATE) ↔ Met (d.setting ∷ []) × (d.state ≡ false)
  pub limit : (number ≡ LIMIT) ↔ Met (d.setting ∷ d.state ∷ []) × (d.limit ≡ false)
  pub length : (number ≡ LENGTH) ↔ Met (d.setting ∷ d.state ∷ d.limit ∷ []) × (d.length ≡ false)
  pub room : (number ≡ ROOM) ↔ Met (d.setting ∷ d.state ∷ d.limit ∷ d.length ∷ []) × (d.room ≡ false)
  pub none : (number ≡ NONE) ↔ Met (d.setting ∷ d.state ∷ d.limit ∷ d.length ∷ d.room ∷ [])

-- a call `gives` its answer and what stands in the lent places: its number is the table's, and where that is not 0 it gives what `refused` says under that number
pub record Refuses {A : Type 0} (d : Demands) (number_in : A → ℕ) (gives : A) (refused : ℕ → A) : Type 0 where
  pub by_the_table : ByTheTable d (number_in gives)
  pub unchanged : (number_in gives ≡ NONE → ⊥) → gives ≡ refused (number_in gives)
