-- What a call gives that reads pairs from one slice and puts one output for each into another, accepted or refused. Definitions only.
use Rattle.std.specs.Prelude.{ℕ, ◌/◌, List, leb, length}
use Rattle.stage.specs.Length.{is_within, is_even}
use Rattle.stage.specs.Refusal.{NONE, refusal_no, unless}
use Rattle.stage.specs.Run.{outs, end, strikes}
use Rattle.stage.specs.Layout.{pairs, over}
use Rattle.stage.specs.Stage.{Stage}

-- the answer, and the output slice as it stands after the call
pub record Put (F S : Type 0) : Type 0 where
  pub refusal : ℕ
  pub state : S
  pub count : ℕ
  pub struck : ℕ
  pub left : List F

-- refused: the state handed in, counts of 0, and no place of the output changed
abbrev pub refused_put : {F S : Type 0} → ℕ → S → List F → Put F S
refused_put number s output = record { refusal = number; state = s; count = 0; struck = 0; left = output }

module _ {F S : Type 0} (g : Stage (F × F) F S) where
  -- the number of the refusal: ROOM where the output has fewer places than there are pairs
  abbrev pub number_into : S → ℕ → ℕ → ℕ
  number_into s n room = refusal_no (g.setting s) (g.state s) (is_within n) (is_even n) (leb (n / 2) room)

  -- a run over all pairs: an output for each from the start of the slice, also for a struck one; the places after them stay
  abbrev pub ran_into : S → List F → List F → Put F S
  ran_into s input output =
      record {
        refusal = NONE;
        state = end g.step s (pairs input);
        count = length input / 2;
        struck = strikes g.step s (pairs input);
        left = over (outs g.step g.silence s (pairs input)) output;
      }

  abbrev pub call_into : S → List F → List F → Put F S
  call_into s input output =
      let number = number_into s (length input) (length output) in
      unless number (ran_into s input output) (refused_put number s output)
