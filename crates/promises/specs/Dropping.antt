-- Demand 3 of the feedback stages: struck samples leave no trace. Definitions only.
use Rattle.std.specs.Prelude.{◌≡◌, Bool, List}
use Rattle.stage.specs.Layout.{pairs}
use Rattle.stage.specs.Drop.{pick, marks, sift}
use Rattle.stage.specs.Lent.{Lent}
use Rattle.stage.specs.Stage.{Stage}
use Rattle.stage.specs.Calls.{joined, Accepted, calls}
use Rattle.stage.specs.IntoCalls.{Handed, Heard, inputs, AllTaken, calls_into}

-- What a stream gave as it came, and what it gave without the samples that it struck; `kept` marks the others. The second puts out what the first put out for the
-- samples that it kept, ends in the same state, and strikes none
pub record NoTrace {B S : Type 0} (kept : List Bool) (whole rest : Heard B S) : Type 0 where
  pub outputs : rest.outputs ≡ pick kept whole.outputs
  pub state : rest.state ≡ whole.state
  pub struck : rest.struck ≡ 0

-- ---- calls in place

module _ {A S X : Type 0} (g : Stage A A S) (l : Lent A X) where
  -- what calls in a row gave: the samples that they left, the last state, and the struck counts added up
  abbrev pub heard_of : S → List X → Heard A S
  heard_of s xs = record { outputs = l.samples (calls g l s xs).left; state = (calls g l s xs).state; struck = (calls g l s xs).struck }

  -- `xs` hand a stream over, from the state s, and `ys` the same stream without the samples that it strikes, cut in any other way; no call is refused
  pub record Without (s : S) (xs ys : List X) : Type 0 where
    pub accepted : Accepted g l s xs
    pub accepted' : Accepted g l s ys
    pub dropped : l.samples (joined l ys) ≡ sift g.step s (l.samples (joined l xs))

  abbrev pub LeavesNoTrace : S → List X → List X → Type 0
  LeavesNoTrace s xs ys = NoTrace (marks g.step s (l.samples (joined l xs))) (heard_of s xs) (heard_of s ys)

-- ---- calls that put an output for each pair into another slice

module _ {F S : Type 0} (g : Stage (F × F) F S) where
  pub record WithoutInto (s : S) (xs ys : List (Handed F)) : Type 0 where
    pub accepted : AllTaken g s xs
    pub accepted' : AllTaken g s ys
    pub dropped : pairs (inputs ys) ≡ sift g.step s (pairs (inputs xs))

  abbrev pub LeavesNoTraceInto : S → List (Handed F) → List (Handed F) → Type 0
  LeavesNoTraceInto s xs ys = NoTrace (marks g.step s (pairs (inputs xs))) (calls_into g s xs) (calls_into g s ys)
