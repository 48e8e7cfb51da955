-- What a call of a feedback stage gives, accepted or refused: its answer, and what it was lent as that stands after the call. Definitions only.
use Rattle.std.specs.Prelude.{ℕ, true}
use Rattle.stage.specs.Refusal.{NONE, refusal_no, unless}
use Rattle.stage.specs.Run.{outs, end, strikes}
use Rattle.stage.specs.Lent.{Lent}
use Rattle.stage.specs.Stage.{Stage}

pub record Given (S X : Type 0) : Type 0 where
  pub refusal : ℕ
  pub state : S
  pub struck : ℕ
  -- what is lent, as it stands after the call
  pub left : X

-- accepted: the state t after it, k samples struck, and y left
abbrev pub gave : {S X : Type 0} → S → ℕ → X → Given S X
gave t k y = record { refusal = NONE; state = t; struck = k; left = y }

-- refused: the state handed in, a count of 0, and no place of what is lent changed
abbrev pub refused_with : {S X : Type 0} → ℕ → S → X → Given S X
refused_with number s x = record { refusal = number; state = s; struck = 0; left = x }

module _ {A S X : Type 0} (g : Stage A A S) (l : Lent A X) where
  -- the number of the refusal
  abbrev pub number_of : S → X → ℕ
  number_of s x = refusal_no (g.setting s) (g.state s) (l.within x) (l.even x) true

  -- a run over all samples, whose outputs are written
  abbrev pub ran : S → X → Given S X
  ran s x =
      record {
        refusal = NONE;
        state = end g.step s (l.samples x);
        struck = strikes g.step s (l.samples x);
        left = l.written (outs g.step g.silence s (l.samples x)) x;
      }

  abbrev pub call : S → X → Given S X
  call s x = unless (number_of s x) (ran s x) (refused_with (number_of s x) s x)
