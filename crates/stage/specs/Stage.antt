-- What a feedback stage is: a step, and what is demanded of a state that is handed in. Definitions only.
use Rattle.std.specs.Prelude.{Bool, true, ◌≡◌}
use Rattle.stage.specs.Run.{Answer}

-- A is a sample or a pair, B what is put out for one, S the state
pub record Stage (A B S : Type 0) : Type 0 where
  pub step : S → A → Answer B S
  -- what a struck sample puts out
  pub silence : B
  -- each setting inside the state keeps its rule: otherwise SETTING
  pub setting : S → Bool
  -- each stored float is finite, and a hang counter within its time: otherwise STATE
  pub state : S → Bool

-- a state that no call refuses for its own sake
pub record Sound {A B S : Type 0} (g : Stage A B S) (s : S) : Type 0 where
  pub setting : g.setting s ≡ true
  pub state : g.state s ≡ true
