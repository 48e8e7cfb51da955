-- What a stage's kept steps keep of its state, every accepted call keeps: so no later call is refused for the state that it is handed. Assumes nothing.
use Prim.Native.Nat.{ℕ}
use native.Mathlib.Omega.{arith}
use mathlib.Core.Path.{◌≡◌, refl, sym, ◌∙◌, subst}
use mathlib.Core.Bool.{Bool, true, false, cond}
use mathlib.Core.List.{List, [], ◌∷◌}
use Rattle.stage.specs.Refusal.{NONE, SETTING, STATE, refusal_no}
use Rattle.stage.specs.Run.{Answer, struck, kept}
use Rattle.stage.specs.Lent.{Lent}
use Rattle.stage.specs.Stage.{Stage, Sound}
use Rattle.stage.specs.Call.{call}
use Rattle.stage.specs.Calls.{Fit, Taken, Accepted}
use Rattle.stage.proofs.Run.{end_keeps}
use Rattle.stage.proofs.Refusals.{met, met_is_none}
use Rattle.stage.proofs.Calls.{call_number, call_ran}

-- a kept step hands on a sound state
abbrev pub Keeps : {A B S : Type 0} → Stage A B S → Type 0
Keeps {A} {B} {S} g = (s : S) (x : A) (o : B) (t : S) → Sound g s → g.step s x ≡ kept o t → Sound g t

-- a step that keeps its sample where a test passes, and strikes it else, whatever its answers are made of: what holds of the state where it passes, holds of any state kept
pub kept_by_test : {C B S : Type 0} (P : S → Type 0) (means : C → Answer B S) (test : Bool) (keep strike : C) (o : B) (t : S) → means keep ≡ kept o t → means strike ≡ struck
    → (test ≡ true → P t) → (o' : B) (t' : S) → means (cond test keep strike) ≡ kept o' t' → P t'
kept_by_test P means true keep strike o t k d p o' t' e = let same : t ≡ t' = cc in subst P same (p refl)
kept_by_test P means false keep strike o t k d p o' t' e = let z : ◌≡◌ {A = ℕ} 0 1 = cc in absurd (omega arith)

-- the same of a step whose answers are what they mean
pub kept_where : {B S : Type 0} (P : S → Type 0) (test : Bool) (o : B) (t : S) → (test ≡ true → P t)
    → (o' : B) (t' : S) → cond test (kept o t) struck ≡ kept o' t' → P t'
kept_where P test o t = kept_by_test P (λ a. a) test (kept o t) struck o t refl refl

-- a making call that gives one answer where a test passes, and SETTING else: what holds of the state where it passes, holds wherever the call is not refused
pub made_by_test : {R S : Type 0} (refusal : R → ℕ) (state : R → S) (P : S → Type 0) (test : Bool) (made refused : R) → refusal refused ≡ SETTING
    → (test ≡ true → P (state made)) → refusal (cond test made refused) ≡ NONE → P (state (cond test made refused))
made_by_test refusal state P true made refused s p e = p refl
made_by_test refusal state P false made refused s p e = absurd (omega arith)

-- SETTING and STATE speak of the state alone
pub never : (m n r : Bool) → (refusal_no true true m n r ≡ SETTING → ⊥) × (refusal_no true true m n r ≡ STATE → ⊥)
never true true true = (λ h. omega arith, λ h. omega arith)
never true true false = (λ h. omega arith, λ h. omega arith)
never true false r = (λ h. omega arith, λ h. omega arith)
never false n r = (λ h. omega arith, λ h. omega arith)

module _ {A S X : Type 0} (g : Stage A A S) (l : Lent A X) where
  -- an accepted call was handed a sound state
  pub accepted_sound : (s : S) (x : X) → (call g l s x).refusal ≡ NONE → Sound g s
  accepted_sound s x e =
      let m = met (g.setting s) (g.state s) (l.within x) (l.even x) true (sym (call_number g l s x) ∙ e) in
      record { setting = m.setting; state = m.state }

  -- and a sound state is never refused for its own sake
  pub sound_taken : (s : S) → Sound g s → Taken (call g l) s
  sound_taken s h x = rw (call_number g l s x, h.setting, h.state) (never (l.within x) (l.even x) true)

  module _ (keeps : Keeps g) where
    -- an accepted call hands on a sound state
    pub call_keeps : (s : S) (x : X) → (call g l s x).refusal ≡ NONE → Sound g (call g l s x).state
    call_keeps s x e =
        rw (call_ran g l s x e) (end_keeps g.step (Sound g) keeps s (l.samples x) (accepted_sound s x e))

    -- from a sound state on, calls on slices that meet the demands are all accepted
    pub all_accepted : (s : S) (xs : List X) → Sound g s → Fit l xs → Accepted g l s xs
    all_accepted s [] h f = tt
    all_accepted s (x ∷ xs) h f =
        let e : (call g l s x).refusal ≡ NONE = call_number g l s x ∙ met_is_none (record { setting = h.setting; state = h.state; limit = f.0; length = f.1; room = refl }) in
        (e, all_accepted (call g l s x).state xs (call_keeps s x e) f.2)
