-- From what a call's code knows to what the call gives: where its demands are met, and where its number refuses it. Assumes nothing.
use Prim.Native.Nat.{ℕ, ◌/◌}
use mathlib.Core.Path.{◌≡◌, refl, sym, ◌∙◌}
use mathlib.Core.Bool.{true}
use mathlib.Core.List.{List}
use lib.ListN.{length, take}
use lib.Seq.{take_all}
use Rattle.stage.specs.Refusal.{NONE}
use Rattle.stage.specs.Run.{outs, end, strikes}
use Rattle.stage.specs.Layout.{pairs, flat, over}
use Rattle.stage.specs.Lent.{Lent, interleaved}
use Rattle.stage.specs.Stage.{Stage}
use Rattle.stage.specs.Call.{Given, gave, refused_with, number_of, ran, call}
use Rattle.stage.specs.Into.{number_into, call_into}
use Rattle.stage.proofs.Refusals.{met, refused_gives, run_gives}
use Rattle.stage.proofs.Layouts.{length_pairs}
use Rattle.stage.proofs.LoopInterleaved.{interleaved_full}
use Rattle.stage.proofs.Intos.{into_lengths, into_run}

module _ {A S X : Type 0} (g : Stage A A S) (l : Lent A X) (s : S) (x : X) (met_all : NONE ≡ number_of g l s x) where
  -- what the work may count on
  pub accepted_even : l.even x ≡ true
  accepted_even = (met (g.setting s) (g.state s) (l.within x) (l.even x) true (sym met_all)).length

  pub met_gives : {r : Given S X} → r ≡ ran g l s x → r ≡ call g l s x
  met_gives e = e ∙ run_gives (number_of g l s x) (ran g l s x) (refused_with (number_of g l s x) s x) (sym met_all)

module _ {A S X : Type 0} (g : Stage A A S) (l : Lent A X) (s : S) (x : X) (n : ℕ) (is : n ≡ number_of g l s x) where
  pub gives_refused : (n ≡ NONE → ⊥) → refused_with n s x ≡ call g l s x
  gives_refused h = rw is (refused_gives (number_of g l s x) (ran g l s x) (refused_with (number_of g l s x) s x) (λ z. h (is ∙ z)))

-- ---- where one of the runs of `runs.rt` is the work: it left `left`, at the state t with k struck
module _ {F S : Type 0} where
  pub pairs_ran : (g : Stage (F × F) (F × F) S) (s : S) (xs : List F) {left : List F} {t : S} {k : ℕ} → interleaved.even xs ≡ true
      → left ≡ over (flat (outs g.step g.silence s (pairs xs))) xs → t ≡ end g.step s (pairs xs) → k ≡ strikes g.step s (pairs xs) → gave t k left ≡ ran g interleaved s xs
  pairs_ran g s xs whole a b d = rw (a, b, d, interleaved_full g.step g.silence s xs whole)

  pub pairs_gives : (g : Stage (F × F) (F × F) S) (s : S) (xs : List F) {left : List F} {t : S} {k : ℕ} → NONE ≡ number_of g interleaved s xs
      → left ≡ over (flat (outs g.step g.silence s (pairs xs))) xs → t ≡ end g.step s (pairs xs) → k ≡ strikes g.step s (pairs xs) → gave t k left ≡ call g interleaved s xs
  pairs_gives g s xs is a b d = met_gives g interleaved s xs is (pairs_ran g s xs (accepted_even g interleaved s xs is) a b d)

  pub into_gives : (g : Stage (F × F) F S) (s : S) (input output : List F) {left : List F} {t : S} {k : ℕ} → NONE ≡ number_into g s (length input) (length output)
      → let ps = take (length output) (pairs input) in
      left ≡ over (outs g.step g.silence s ps) output → t ≡ end g.step s ps → k ≡ strikes g.step s ps
      → record { refusal = NONE; state = t; count = length input / 2; struck = k; left = left } ≡ call_into g s input output
  into_gives g s input output is a b d =
      let room = (into_lengths g s (length input) (length output) (sym is)).1 in
      let all : take (length output) (pairs input) ≡ pairs input = take_all (length output) (pairs input) (rw length_pairs room) in
      into_run g s input output NONE is _ _ _ refl (rw all at a) (rw all at b) (rw all at d)
