-- Calls that put outputs into another slice: from what the code knows on each of its two ways to what the call gives. Assumes nothing.
use Prim.Native.Nat.{ℕ, zero, suc, ◌/◌, ◌≤◌}
use mathlib.Core.Path.{◌≡◌, refl, sym, ◌∙◌}
use mathlib.Core.Bool.{true}
use mathlib.Core.List.{List}
use lib.Dec.{leb}
use lib.ListN.{length}
use borrow.Author.Tests.{leb-true}
use Rattle.stage.specs.Length.{is_within, is_even}
use Rattle.stage.specs.Refusal.{NONE, unless}
use Rattle.stage.specs.Run.{outs, end, strikes}
use Rattle.stage.specs.Layout.{pairs, over}
use Rattle.stage.specs.Stage.{Stage}
use Rattle.stage.specs.Into.{Put, refused_put, number_into, ran_into, call_into}
use Rattle.stage.proofs.Refusals.{met, refused_gives, run_gives}

module _ {F S : Type 0} (g : Stage (F × F) F S) where
  -- ---- from the code
  module _ (s : S) (input output : List F) (n : ℕ) (is : n ≡ number_into g s (length input) (length output)) where
    pub into_refused : (n ≡ NONE → ⊥) → refused_put n s output ≡ call_into g s input output
    into_refused h =
        let number = number_into g s (length input) (length output) in
        rw is (refused_gives number (ran_into g s input output) (refused_put number s output) (λ z. h (is ∙ z)))

    pub into_run : (t : S) (k : ℕ) (left : List F) → n ≡ NONE → left ≡ over (outs g.step g.silence s (pairs input)) output
        → t ≡ end g.step s (pairs input) → k ≡ strikes g.step s (pairs input)
        → record { refusal = NONE; state = t; count = length input / 2; struck = k; left = left } ≡ call_into g s input output
    into_run t k left z a b d =
        let number = number_into g s (length input) (length output) in
        rw (a, b, d) (run_gives number (ran_into g s input output) (refused_put number s output) (sym is ∙ z))

  -- an accepted call has whole pairs, and room
  pub into_lengths : (s : S) (n room : ℕ) → number_into g s n room ≡ NONE → (is_even n ≡ true) × (n / 2 ≤ room)
  into_lengths s n room e =
      let m = met (g.setting s) (g.state s) (is_within n) (is_even n) (leb (n / 2) room) e in
      (m.length, leb-true _ _ m.room)

  told : (n : ℕ) (a : Put F S) (s : S) (output : List F) → a.refusal ≡ NONE → (unless n a (refused_put n s output)).refusal ≡ n
  told zero a s output e = e
  told (suc n) a s output e = refl

  pub into_number : (s : S) (input output : List F) → (call_into g s input output).refusal ≡ number_into g s (length input) (length output)
  into_number s input output = told (number_into g s (length input) (length output)) (ran_into g s input output) s output refl

  pub into_ran : (s : S) (input output : List F) → (call_into g s input output).refusal ≡ NONE → call_into g s input output ≡ ran_into g s input output
  into_ran s input output e =
      let number = number_into g s (length input) (length output) in
      sym (run_gives number (ran_into g s input output) (refused_put number s output) (sym (into_number s input output) ∙ e))

  pub into_even : (s : S) (input output : List F) → (call_into g s input output).refusal ≡ NONE → is_even (length input) ≡ true
  into_even s input output e = (into_lengths s (length input) (length output) (sym (into_number s input output) ∙ e)).0
