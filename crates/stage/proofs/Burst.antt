-- A burst of struck samples puts out silence, is counted whole and leaves the state: what comes after it comes as if it had not been there. Assumes nothing.
use Prim.Native.Nat.{◌+◌}
use native.Mathlib.Omega.{arith}
use mathlib.Core.Path.{◌≡◌, refl, sym, ap, ◌∙◌}
use mathlib.Core.Bool.{true}
use mathlib.Core.List.{List, [], ◌∷◌, ◌++◌}
use lib.ListN.{length, replicate, length-append}
use Rattle.stage.specs.Run.{Answer, outs, end, strikes}
use Rattle.stage.specs.Refusal.{NONE}
use Rattle.stage.specs.Length.{is_within}
use Rattle.stage.specs.Lent.{mono}
use Rattle.stage.specs.Stage.{Stage, Sound}
use Rattle.stage.specs.Call.{Given, ran, call}
use Rattle.stage.specs.Calls.{both}
use Rattle.stage.specs.Burst.{EachStruck}
use Rattle.stage.proofs.Refusals.{met}
use Rattle.stage.proofs.Lents.{mono_lawful, within_shorter}
use Rattle.stage.proofs.Calls.{call_number, call_ran, ran_join}
use Rattle.stage.proofs.Stays.{Keeps, accepted_sound, call_keeps, all_accepted}

module _ {A B S : Type 0} (step : S → A → Answer B S) where
  pub outs_burst : (silence : B) (s : S) (xs : List A) → EachStruck step s xs → outs step silence s xs ≡ replicate (length xs) silence
  outs_burst silence s [] h = refl
  outs_burst silence s (x ∷ xs) h = rw h.0 (ap {B = List B} (λ os. silence ∷ os) (outs_burst silence s xs h.1))

  pub end_burst : (s : S) (xs : List A) → EachStruck step s xs → end step s xs ≡ s
  end_burst s [] h = refl
  end_burst s (x ∷ xs) h = rw h.0 (end_burst s xs h.1)

  pub strikes_burst : (s : S) (xs : List A) → EachStruck step s xs → strikes step s xs ≡ length xs
  strikes_burst s [] h = refl
  strikes_burst s (x ∷ xs) h = rw h.0 (omega (arith, strikes_burst s xs h.1))

-- ---- a burst in the middle of a call on mono samples
module _ {F S : Type 0} (g : Stage F F S) (keeps : Keeps g) where
  accepted : (s : S) (xs : List F) → Sound g s → is_within (length xs) ≡ true → (call g mono s xs).refusal ≡ NONE
  accepted s xs h w = (all_accepted g mono keeps s (xs ∷ []) h (w, refl, tt)).0

  -- where a call is accepted, so is one on its first part
  pub before_accepted : (s : S) (before after : List F) → (call g mono s (before ++ after)).refusal ≡ NONE → (call g mono s before).refusal ≡ NONE
  before_accepted s before after e =
      let n = length-append before after in
      let w = (met (g.setting s) (g.state s) (is_within (length (before ++ after))) true true (sym (call_number g mono s (before ++ after)) ∙ e)).limit in
      accepted s before (accepted_sound g mono s (before ++ after) e) (within_shorter (length before) (length (before ++ after)) (omega arith) w)

  -- what a burst gives
  abbrev silent : S → List F → Given S (List F)
  silent s xs = record { refusal = NONE; state = s; struck = length xs; left = replicate (length xs) g.silence }

  ran_burst : (s : S) (burst after : List F) → EachStruck g.step s burst → ran g mono s (burst ++ after) ≡ both mono (silent s burst) (ran g mono s after)
  ran_burst s burst after k =
      ran_join g mono mono_lawful s burst after refl
      ∙ rw (outs_burst g.step g.silence s burst k, end_burst g.step s burst k, strikes_burst g.step s burst k)

  -- a run whose first part is a call of its own
  first_part : (s : S) (before after : List F) → (call g mono s before).refusal ≡ NONE
      → ran g mono s (before ++ after) ≡ both mono (call g mono s before) (ran g mono (call g mono s before).state after)
  first_part s before after e =
      ran_join g mono mono_lawful s before after refl
      ∙ ap (λ (r : Given S (List F)). both mono r (ran g mono r.state after)) (sym (call_ran g mono s before e))

  first : (s : S) (before after : List F) → (call g mono s before).refusal ≡ NONE → (call g mono (call g mono s before).state after).refusal ≡ NONE
      → ran g mono s (before ++ after) ≡ both mono (call g mono s before) (call g mono (call g mono s before).state after)
  first s before after e f =
      first_part s before after e ∙ ap (λ (r : Given S (List F)). both mono (call g mono s before) r) (sym (call_ran g mono (call g mono s before).state after f))

  -- without the burst the call gives `a` and then `b`; with it, `a`, silence as long as the burst, and then `b`, and the state at the end is the same
  pub mono_burst : (s : S) (before burst after : List F) → EachStruck g.step (call g mono s before).state burst → (call g mono s (before ++ (burst ++ after))).refusal ≡ NONE
      → let a = call g mono s before in
      let b = call g mono a.state after in
      (call g mono s (before ++ after) ≡ record { refusal = NONE; state = b.state; struck = a.struck + b.struck; left = a.left ++ b.left })
      × (call g mono s (before ++ (burst ++ after))
      ≡ record { refusal = NONE; state = b.state; struck = a.struck + (length burst + b.struck); left = a.left ++ (replicate (length burst) g.silence ++ b.left) })
  mono_burst s before burst after k e =
      let n = length-append before (burst ++ after) in
      let n₁ = length-append burst after in
      let n₂ = length-append before after in
      let total = length (before ++ (burst ++ after)) in
      let w = (met (g.setting s) (g.state s) (is_within total) true true (sym (call_number g mono s (before ++ (burst ++ after))) ∙ e)).limit in
      let h = accepted_sound g mono s (before ++ (burst ++ after)) e in
      let a = call g mono s before in
      let e₁ = before_accepted s before (burst ++ after) e in
      let e₂ = accepted s (before ++ after) h (within_shorter (length (before ++ after)) total (omega arith) w) in
      let e₃ = accepted a.state after (call_keeps g mono keeps s before e₁) (within_shorter (length after) total (omega arith) w) in (
        call_ran g mono s (before ++ after) e₂ ∙ first s before after e₁ e₃,
        call_ran g mono s (before ++ (burst ++ after)) e
            ∙ first_part s before (burst ++ after) e₁
            ∙ ap (λ (r : Given S (List F)). both mono a r) (ran_burst a.state burst after k ∙ ap (λ (r : Given S (List F)). both mono (silent a.state burst) r) (sym (call_ran g mono a.state after e₃))),
      )
