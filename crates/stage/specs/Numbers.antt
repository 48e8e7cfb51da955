-- The number of each refusal, and of what a call's demands come to. Definitions only.
use Rattle.std.specs.Prelude.{ℕ, Result, Ok, Err}
use Rattle.stage.specs.declared.numbers.Refusal.{Refusal}
use Rattle.stage.specs.declared.numbers.Refusal.TheVariants as refusal
use Rattle.stage.specs.Refusal.{NONE, SETTING, STATE, LIMIT, LENGTH, ROOM}

abbrev pub number : Refusal → ℕ
number refusal.Setting = SETTING
number refusal.State = STATE
number refusal.Limit = LIMIT
number refusal.Length = LENGTH
number refusal.Room = ROOM

-- each demand is met, or this refusal is that of the first that is not
abbrev pub number_of : Result Unit Refusal → ℕ
number_of (Ok u) = NONE
number_of (Err r) = number r
