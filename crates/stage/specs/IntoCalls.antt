-- A stream handed in calls, one after the other, to a stage that reads pairs from one slice and puts outputs into another. Definitions only.
use Rattle.std.specs.Prelude.{ℕ, ◌+◌, ◌≡◌, List, [], ◌∷◌, ◌++◌, take}
use Rattle.stage.specs.Refusal.{NONE, SETTING, STATE}
use Rattle.stage.specs.Run.{outs, end, strikes}
use Rattle.stage.specs.Layout.{pairs, flat}
use Rattle.stage.specs.Drop.{pick, marks, sift}
use Rattle.stage.specs.Stage.{Stage}
use Rattle.stage.specs.Into.{Put, call_into}

-- one call's input, and its output slice as it stands before the call
pub record Handed (F : Type 0) : Type 0 where
  pub input : List F
  pub output : List F

-- the inputs in a row
abbrev pub inputs : {F : Type 0} → List (Handed F) → List F
inputs [] = []
inputs (h ∷ hs) = h.input ++ inputs hs

-- what a stream gave: its outputs in a row, the state at its end, and how many pairs were struck
pub record Heard (F S : Type 0) : Type 0 where
  pub outputs : List F
  pub state : S
  pub struck : ℕ

module _ {F S : Type 0} where
  -- the outputs of a call: as many as it counts, from the start of its slice
  abbrev pub heard_of : Put F S → Heard F S
  heard_of r = record { outputs = take r.count r.left; state = r.state; struck = r.struck }

  abbrev pub then_heard : Heard F S → Heard F S → Heard F S
  then_heard a b = record { outputs = a.outputs ++ b.outputs; state = b.state; struck = a.struck + b.struck }

module _ {F S : Type 0} (g : Stage (F × F) F S) where
  -- on nothing that it is lent does the call refuse this state with SETTING or STATE
  abbrev pub TakenInto : S → Type 0
  TakenInto s = (input output : List F) → ((call_into g s input output).refusal ≡ SETTING → ⊥) × ((call_into g s input output).refusal ≡ STATE → ⊥)

  -- what one run over a list of pairs gives
  abbrev pub heard : S → List (F × F) → Heard F S
  heard s ps = record { outputs = outs g.step g.silence s ps; state = end g.step s ps; struck = strikes g.step s ps }

  -- no call is refused
  abbrev pub AllTaken : S → List (Handed F) → Type 0
  AllTaken s [] = Unit
  AllTaken s (h ∷ hs) = ((call_into g s h.input h.output).refusal ≡ NONE) × AllTaken (call_into g s h.input h.output).state hs

  -- all that the calls give, each with the state that the one before gave back
  abbrev pub calls_into : S → List (Handed F) → Heard F S
  calls_into s [] = record { outputs = []; state = s; struck = 0 }
  calls_into s (h ∷ hs) =
      let r = call_into g s h.input h.output in
      then_heard (heard_of r) (calls_into r.state hs)

  -- the input without the pairs that a call from s strikes, and what it gave without their outputs and their count
  abbrev pub kept_input : S → List F → List F
  kept_input s input = flat (sift g.step s (pairs input))

  abbrev pub heard_without_struck : S → List F → Heard F S → Heard F S
  heard_without_struck s input h = record { outputs = pick (marks g.step s (pairs input)) h.outputs; state = h.state; struck = 0 }
