-- Calls that put outputs into another slice, over streams: however a stream is cut into accepted calls they give what one run over it gives, the struck pairs can be dropped,
-- and no later call refuses the state that an accepted one gave. Assumes nothing.
use Prim.Native.Nat.{◌/◌, ◌≤◌}
use mathlib.Core.Path.{◌≡◌, refl, sym, ap, ◌∙◌}
use mathlib.Core.List.{List, [], ◌∷◌, ◌++◌}
use lib.Dec.{leb}
use lib.ListN.{length}
use lib.Seq.{take_at}
use borrow.Author.Tests.{leb-true, le-leb}
use native.Mathlib.Omega.{arith}
use native.Mathlib.Nat.{le_trans}
use Rattle.stage.specs.Length.{is_within, is_even}
use Rattle.stage.specs.Refusal.{NONE}
use Rattle.stage.specs.Run.{outs, end}
use Rattle.stage.specs.Layout.{pairs}
use Rattle.stage.specs.Drop.{sift}
use Rattle.stage.specs.Stage.{Stage, Sound}
use Rattle.stage.specs.Into.{Put, call_into}
use Rattle.stage.specs.IntoCalls.{Handed, inputs, Heard, heard_of, then_heard, heard, TakenInto, AllTaken, calls_into, kept_input, heard_without_struck}
use Rattle.stage.proofs.Refusals.{met}
use Rattle.stage.proofs.Run.{length_outs, end_keeps}
use Rattle.stage.proofs.Cut.{outs_cut, end_cut, strikes_cut}
use Rattle.stage.proofs.Drop.{outs_sift, end_sift, strikes_sift}
use Rattle.stage.proofs.Layouts.{pairs_append, length_pairs}
use Rattle.stage.proofs.Stays.{Keeps, never}
use Rattle.stage.specs.Layout.{flat}
use Rattle.stage.proofs.Refusals.{met_is_none}
use Rattle.stage.proofs.Drop.{length_sift}
use Rattle.stage.proofs.Layouts.{pairs_flat}
use Rattle.stage.proofs.Lents.{interleaved_lawful}
use Rattle.stage.proofs.Intos.{into_number, into_ran, into_even}

module _ {F S : Type 0} (g : Stage (F × F) F S) where
  -- ---- the outputs of a call are those of its run
  one_each : (s : S) (input : List F) → length (outs g.step g.silence s (pairs input)) ≡ length input / 2
  one_each s input = length_outs g.step g.silence s (pairs input) ∙ length_pairs input

  pub into_heard : (s : S) (input output : List F) → (call_into g s input output).refusal ≡ NONE → heard_of (call_into g s input output) ≡ heard g s (pairs input)
  into_heard s input output e = rw (into_ran g s input output e, take_at (outs g.step g.silence s (pairs input)) _ (length input / 2) (one_each s input))

  -- a run over pairs in a row is the run over the first and then, from the state handed on, over the rest
  heard_cut : (s : S) (ps qs : List (F × F)) → heard g s (ps ++ qs) ≡ then_heard (heard g s ps) (heard g (end g.step s ps) qs)
  heard_cut s ps qs = rw (outs_cut g.step g.silence s ps qs, end_cut g.step s ps qs, strikes_cut g.step s ps qs)

  -- accepted calls in a row give what one run over all their pairs gives, however the stream is cut
  pub calls_heard : (s : S) (hs : List (Handed F)) → AllTaken g s hs → calls_into g s hs ≡ heard g s (pairs (inputs hs))
  calls_heard s [] a = refl
  calls_heard s (h ∷ hs) a =
      let r = call_into g s h.input h.output in
      let ps = pairs h.input in
      let next : r.state ≡ end g.step s ps = ap (λ (p : Put F S). p.state) (into_ran g s h.input h.output a.0) in
      ap (λ (b : Heard F S). then_heard (heard_of r) b) (calls_heard r.state hs a.1)
      ∙ ap (λ (b : Heard F S). then_heard b (heard g r.state (pairs (inputs hs)))) (into_heard s h.input h.output a.0)
      ∙ ap (λ (t : S). then_heard (heard g s ps) (heard g t (pairs (inputs hs)))) next
      ∙ sym (heard_cut s ps (pairs (inputs hs)))
      ∙ ap (heard g s) (sym (pairs_append h.input (inputs hs) (into_even g s h.input h.output a.0)))

  -- so two ways to cut one stream into accepted calls give the same
  pub any_calls_heard : (s : S) (hs ks : List (Handed F)) → AllTaken g s hs → AllTaken g s ks → inputs hs ≡ inputs ks → calls_into g s hs ≡ calls_into g s ks
  any_calls_heard s hs ks a b e = calls_heard s hs a ∙ ap (λ (xs : List F). heard g s (pairs xs)) e ∙ sym (calls_heard s ks b)

  -- ---- the struck pairs dropped: the call again without them changes no other output and not the end state, and strikes none
  kept_fewer : (s : S) (input : List F) → length (kept_input g s input) / 2 ≤ length input / 2
  kept_fewer s input =
      let ks = sift g.step s (pairs input) in
      let n : length ks ≡ length (flat ks) / 2 = ap length (sym (pairs_flat ks)) ∙ length_pairs (flat ks) in
      let m = length_pairs input in
      omega (arith, length_sift g.step s (pairs input))

  kept_accepted : (s : S) (input output : List F) → (call_into g s input output).refusal ≡ NONE → (call_into g s (kept_input g s input) output).refusal ≡ NONE
  kept_accepted s input output e =
      let m = met (g.setting s) (g.state s) (is_within (length input)) (is_even (length input)) (leb (length input / 2) (length output)) (sym (into_number g s input output) ∙ e) in
      let ks = sift g.step s (pairs input) in
      let few : length ks ≤ length (pairs input) = omega (arith, length_sift g.step s (pairs input)) in
      let room : length (kept_input g s input) / 2 ≤ length output = le_trans (kept_fewer s input) (leb-true _ _ m.room) in
      into_number g s (kept_input g s input) output
      ∙ met_is_none (record { setting = m.setting; state = m.state; limit = interleaved_lawful.within_lay ks input few m.limit; length = interleaved_lawful.even_lay ks; room = le-leb _ _ room })

  pub into_dropped : (s : S) (input output : List F) → (call_into g s input output).refusal ≡ NONE
      → heard_of (call_into g s (kept_input g s input) output) ≡ heard_without_struck g s input (heard_of (call_into g s input output))
  into_dropped s input output e =
      let t = g.step in
      let ps = pairs input in
      into_heard s (kept_input g s input) output (kept_accepted s input output e)
      ∙ rw (pairs_flat (sift t s ps), outs_sift t g.silence s ps, end_sift t s ps, strikes_sift t s ps) refl
      ∙ ap (heard_without_struck g s input) (sym (into_heard s input output e))

  -- ---- an accepted call hands on a state that no later call refuses for its own sake
  pub sound_taken_into : (s : S) → Sound g s → TakenInto g s
  sound_taken_into s h input output = rw (into_number g s input output, h.setting, h.state) (never (is_within (length input)) (is_even (length input)) (leb (length input / 2) (length output)))

  pub into_keeps : Keeps g → (s : S) (input output : List F) → (call_into g s input output).refusal ≡ NONE → Sound g (call_into g s input output).state
  into_keeps keeps s input output e =
      let m = met (g.setting s) (g.state s) (is_within (length input)) (is_even (length input)) (leb (length input / 2) (length output)) (sym (into_number g s input output) ∙ e) in
      rw (into_ran g s input output e) (end_keeps g.step (Sound g) keeps s (pairs input) (record { setting = m.setting; state = m.state }))
