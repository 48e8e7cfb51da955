-- Demand 3 for each layout: however a stream is cut into accepted calls, they give what one run over it gives. Assumes nothing.
use mathlib.Core.Path.{◌≡◌, refl, sym, ◌∙◌}
use mathlib.Core.Bool.{true}
use mathlib.Core.List.{List, [], ◌∷◌}
use Rattle.stage.specs.Lent.{mono, interleaved, split}
use Rattle.stage.specs.Stage.{Stage}
use Rattle.stage.specs.Call.{ran, call}
use Rattle.stage.specs.Calls.{joined, Whole, Accepted, calls}
use Rattle.stage.proofs.Refusals.{met}
use Rattle.stage.proofs.Lents.{mono_lawful, interleaved_lawful, split_lawful}
use Rattle.stage.proofs.Calls.{call_number, calls_join}

mono_whole : {F : Type 0} (bs : List (List F)) → Whole mono bs
mono_whole [] = tt
mono_whole (b ∷ bs) = (refl, mono_whole bs)

module _ {F S : Type 0} where
  -- mono blocks may be cut anywhere
  pub mono_calls : (g : Stage F F S) (s : S) (bs : List (List F)) → Accepted g mono s bs → calls g mono s bs ≡ ran g mono s (joined mono bs)
  mono_calls g s bs a = calls_join g mono mono_lawful s bs a (mono_whole bs)

  interleaved_whole : (g : Stage (F × F) (F × F) S) (s : S) (bs : List (List F)) → Accepted g interleaved s bs → Whole interleaved bs
  interleaved_whole g s [] a = tt
  interleaved_whole g s (b ∷ bs) a = (
    (met (g.setting s) (g.state s) (interleaved.within b) (interleaved.even b) true (sym (call_number g interleaved s b) ∙ a.0)).length,
    interleaved_whole g (call g interleaved s b).state bs a.1,
  )

  -- an accepted interleaved block is whole pairs, so that none is torn
  pub interleaved_calls : (g : Stage (F × F) (F × F) S) (s : S) (bs : List (List F)) → Accepted g interleaved s bs
      → calls g interleaved s bs ≡ ran g interleaved s (joined interleaved bs)
  interleaved_calls g s bs a = calls_join g interleaved interleaved_lawful s bs a (interleaved_whole g s bs a)

  -- two slices are cut at the same places
  pub split_calls : (g : Stage (F × F) (F × F) S) (s : S) (bs : List (List F × List F)) → Accepted g split s bs → Whole split bs
      → calls g split s bs ≡ ran g split s (joined split bs)
  split_calls g s bs a w = calls_join g split split_lawful s bs a w
