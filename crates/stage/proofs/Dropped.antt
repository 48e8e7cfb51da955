-- The call again with only the samples that it keeps: the same state at the end, the outputs at their places, and none struck. For any stage and any layout. Assumes nothing.
use Prim.Native.Nat.{◌≤◌}
use native.Mathlib.Omega.{arith}
use mathlib.Core.Path.{◌≡◌, refl, sym, ap, ◌∙◌}
use mathlib.Core.Bool.{true}
use lib.ListN.{length}
use Rattle.stage.specs.Refusal.{NONE}
use Rattle.stage.specs.Run.{outs}
use Rattle.stage.specs.Drop.{sift}
use Rattle.stage.specs.Lent.{Lent}
use Rattle.stage.specs.Kept.{kept_of, without_struck}
use Rattle.stage.specs.Stage.{Stage}
use Rattle.stage.specs.Call.{ran, call}
use Rattle.stage.proofs.Run.{length_outs}
use Rattle.stage.proofs.Drop.{outs_sift, end_sift, strikes_sift, length_sift}
use Rattle.stage.proofs.Refusals.{met, met_is_none}
use Rattle.stage.proofs.Lents.{Lawful}
use Rattle.stage.proofs.Calls.{call_number, call_ran}

module _ {A S X : Type 0} (g : Stage A A S) (l : Lent A X) (laws : Lawful l) where
  -- fewer samples are accepted too
  kept_accepted : (s : S) (x : X) → (call g l s x).refusal ≡ NONE → (call g l s (kept_of g l s x)).refusal ≡ NONE
  kept_accepted s x e =
      let m = met (g.setting s) (g.state s) (l.within x) (l.even x) true (sym (call_number g l s x) ∙ e) in
      let ks = sift g.step s (l.samples x) in
      let few : length ks ≤ length (l.samples x) = omega (arith, length_sift g.step s (l.samples x)) in
      call_number g l s (l.lay ks)
      ∙ met_is_none (record { setting = m.setting; state = m.state; limit = laws.within_lay ks x few m.limit; length = laws.even_lay ks; room = refl })

  -- the outputs of the kept samples alone are the outputs at their places
  ran_dropped : (s : S) (x : X) → ran g l s (kept_of g l s x) ≡ without_struck g l s x (ran g l s x)
  ran_dropped s x =
      let t = g.step in
      let xs = l.samples x in
      let ks = sift t s xs in
      rw (
        laws.samples_lay ks,
        end_sift t s xs,
        strikes_sift t s xs,
        laws.written_lay (outs t g.silence s ks) ks (length_outs t g.silence s ks),
        outs_sift t g.silence s xs,
        laws.samples_written (outs t g.silence s xs) x (length_outs t g.silence s xs),
      )

  pub call_dropped : (s : S) (x : X) → (call g l s x).refusal ≡ NONE → call g l s (kept_of g l s x) ≡ without_struck g l s x (call g l s x)
  call_dropped s x e =
      call_ran g l s (kept_of g l s x) (kept_accepted s x e) ∙ ran_dropped s x ∙ ap (without_struck g l s x) (sym (call_ran g l s x e))
