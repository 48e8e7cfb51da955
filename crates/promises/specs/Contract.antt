-- What it is to meet the contract of a public call, and that no second answer meets it. Definitions only.
-- Of each function the toolchain makes `ended`, its signature and what is lent to be written, and `Learnt`, what its `ensures` clause tells a caller.
use Rattle.std.specs.Prelude.{◌≡◌}
use contract.Lifetimes.{Lfts}
use denote.Triple.Entry.{Args, Res}
use denote.Triple.Clauses.{Ended, Lasts, AtExit, at_exit}

module _ (ended : Ended) where
  -- what a call is handed: its arguments, and how long each loan lasts
  abbrev pub Entry : Type 0
  Entry = (loans : Lfts ended.signature.lifetimes) × Args ended.signature loans

  -- an answer: the result, and what stands at exit in every place that was lent to be written
  abbrev pub Answer : Entry → Type 0
  Answer h = Res ended.signature h.0 × Lasts ended h.0 h.1

  -- what a contract says of the arguments, the result and the places at exit
  abbrev pub Contract : Type 1
  Contract = (loans : Lfts ended.signature.lifetimes) → Args ended.signature loans → Res ended.signature loans → AtExit ended loans → Type 0

  -- the answer x to what was handed in meets it
  abbrev pub Meets : Contract → (h : Entry) → Answer h → Type 0
  Meets contract h x = contract h.0 h.1 x.0 (at_exit ended h.0 h.1 x.1)

  -- two answers that meet it are one
  abbrev pub NoSecond : Contract → Type 0
  NoSecond contract = (h : Entry) (x y : Answer h) → Meets contract h x → Meets contract h y → x ≡ y
