-- However a stream is cut into accepted calls, they give what one run over the whole stream gives: for any stage and any layout. Assumes nothing.
use Prim.Native.Nat.{ℕ, zero, suc}
use mathlib.Core.Path.{◌≡◌, refl, sym, ap, ◌∙◌}
use mathlib.Core.Bool.{true}
use mathlib.Core.List.{List, [], ◌∷◌}
use lib.ListN.{length}
use Rattle.stage.specs.Refusal.{NONE, unless}
use Rattle.stage.specs.Run.{outs, end}
use Rattle.stage.specs.Lent.{Lent}
use Rattle.stage.specs.Stage.{Stage}
use Rattle.stage.specs.Call.{Given, refused_with, number_of, ran, call}
use Rattle.stage.specs.Calls.{joined, Whole, both, Accepted, calls}
use Rattle.stage.proofs.Cut.{outs_cut, end_cut, strikes_cut}
use Rattle.stage.proofs.Run.{length_outs}
use Rattle.stage.proofs.Refusals.{run_gives}
use Rattle.stage.proofs.Lents.{Lawful}

tells : {S X : Type 0} (n : ℕ) (a : Given S X) (s : S) (x : X) → a.refusal ≡ NONE → (unless n a (refused_with n s x)).refusal ≡ n
tells zero a s x e = e
tells (suc n) a s x e = refl

module _ {A S X : Type 0} (g : Stage A A S) (l : Lent A X) where
  -- the number that a call answers
  pub call_number : (s : S) (x : X) → (call g l s x).refusal ≡ number_of g l s x
  call_number s x = tells (number_of g l s x) (ran g l s x) s x refl

  -- a call that is accepted gives what its run gives
  pub call_ran : (s : S) (x : X) → (call g l s x).refusal ≡ NONE → call g l s x ≡ ran g l s x
  call_ran s x e = sym (run_gives (number_of g l s x) (ran g l s x) (refused_with (number_of g l s x) s x) (sym (call_number s x) ∙ e))

  module _ (laws : Lawful l) where
    -- a run over two parts in a row is the run over the first and then, from the state handed on, over the second
    pub ran_join : (s : S) (x y : X) → l.whole x ≡ true → ran g l s (l.join x y) ≡ both l (ran g l s x) (ran g l (ran g l s x).state y)
    ran_join s x y w =
        let t = g.step in
        let xs = l.samples x in
        let ys = l.samples y in
        let os = outs t g.silence s xs in
        let n : length os ≡ length xs = length_outs t g.silence s xs in
        rw (laws.samples_join x y w, end_cut t s xs ys, strikes_cut t s xs ys, outs_cut t g.silence s xs ys, laws.written_join os (outs t g.silence (end t s xs) ys) x y w n)

    ran_none : (s : S) → ran g l s (l.lay []) ≡ record { refusal = NONE; state = s; struck = 0; left = l.lay [] }
    ran_none s = rw (laws.samples_lay [], laws.written_lay [] [] refl)

    -- accepted calls in a row give what one run gives over what they were lent, joined
    pub calls_join : (s : S) (xs : List X) → Accepted g l s xs → Whole l xs → calls g l s xs ≡ ran g l s (joined l xs)
    calls_join s [] a w = sym (ran_none s)
    calls_join s (x ∷ xs) a w =
        let c = call g l s x in
        ap (λ (r : Given S X). both l c r) (calls_join c.state xs a.1 w.1)
        ∙ ap (λ (r : Given S X). both l r (ran g l r.state (joined l xs))) (call_ran s x a.0)
        ∙ sym (ran_join s x (joined l xs) w.0)

    -- so two ways to cut one stream into accepted calls give the same
    pub any_calls : (s : S) (xs ys : List X) → Accepted g l s xs → Whole l xs → Accepted g l s ys → Whole l ys → joined l xs ≡ joined l ys
        → calls g l s xs ≡ calls g l s ys
    any_calls s xs ys a w b v e = calls_join s xs a w ∙ ap (ran g l s) e ∙ sym (calls_join s ys b v)
