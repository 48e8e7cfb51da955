-- How samples lie in what a call is lent and works on in place: mono, pairs interleaved in one slice, pairs side by side in two. Definitions only.
use Rattle.std.specs.Prelude.{Bool, true, ◌&&◌, List, ◌++◌, eqb, length}
use Rattle.stage.specs.Length.{is_within, is_even}
use Rattle.stage.specs.Layout.{pairs, flat, zip, firsts, seconds, over}

-- A is a sample or a pair, and X what is lent
pub record Lent (A X : Type 0) : Type 0 where
  -- the samples that a call works on, in order, and what is lent where it is just these
  pub samples : X → List A
  pub lay : List A → X
  -- what is lent, once an output is written for each of its samples
  pub written : List A → X → X
  -- the demands on what is lent: otherwise LIMIT, or LENGTH
  pub within : X → Bool
  pub even : X → Bool
  -- two parts of a stream in a row, and that a cut after this part tears no pair
  pub join : X → X → X
  pub whole : X → Bool

module _ {F : Type 0} where
  abbrev pub mono : Lent F (List F)
  mono =
      record {
        samples = λ xs. xs;
        lay = λ xs. xs;
        written = λ os xs. os;
        within = λ xs. is_within (length xs);
        even = λ xs. true;
        join = λ xs ys. xs ++ ys;
        whole = λ xs. true;
      }

  abbrev pub interleaved : Lent (F × F) (List F)
  interleaved =
      record {
        samples = pairs;
        lay = flat;
        written = λ os xs. flat os;
        within = λ xs. is_within (length xs);
        even = λ xs. is_even (length xs);
        join = λ xs ys. xs ++ ys;
        whole = λ xs. is_even (length xs);
      }

  -- to the end of the shorter slice: the rest of the longer stays
  abbrev pub split : Lent (F × F) (List F × List F)
  split =
      record {
        samples = λ b. zip b.0 b.1;
        lay = λ ps. (firsts ps, seconds ps);
        written = λ os b. (over (firsts os) b.0, over (seconds os) b.1);
        within = λ b. is_within (length b.0) && is_within (length b.1);
        even = λ b. true;
        join = λ b c. (b.0 ++ c.0, b.1 ++ c.1);
        whole = λ b. eqb (length b.0) (length b.1);
      }
