-- A call as if the samples that it strikes had never come. Definitions only.
use Rattle.stage.specs.Refusal.{NONE}
use Rattle.stage.specs.Drop.{pick, marks, sift}
use Rattle.stage.specs.Lent.{Lent}
use Rattle.stage.specs.Stage.{Stage}
use Rattle.stage.specs.Call.{Given}

module _ {A S X : Type 0} (g : Stage A A S) (l : Lent A X) where
  -- what is lent, without the samples that a call from s strikes
  abbrev pub kept_of : S → X → X
  kept_of s x = l.lay (sift g.step s (l.samples x))

  -- what such a call gave, without their places and their count
  abbrev pub without_struck : S → X → Given S X → Given S X
  without_struck s x r =
      record {
        refusal = NONE;
        state = r.state;
        struck = 0;
        left = l.lay (pick (marks g.step s (l.samples x)) (l.samples r.left));
      }
