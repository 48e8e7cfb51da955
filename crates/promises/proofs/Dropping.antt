-- Demand 3 of the feedback stages: take the samples that a stream strikes out of it, cut what is left into calls in any other way, and no other output and not the
-- end state changes. Assumes nothing.
use mathlib.Core.Path.{◌≡◌, sym, ap, ◌∙◌}
use mathlib.Core.List.{List}
use lib.Ieee.{Float}
use Rattle.stage.specs.Layout.{pairs}
use Rattle.stage.specs.Run.{outs, end, strikes}
use Rattle.stage.specs.Drop.{pick, marks}
use Rattle.stage.specs.Lent.{Lent, mono, interleaved, split}
use Rattle.stage.specs.Stage.{Stage}
use Rattle.stage.specs.Call.{ran}
use Rattle.stage.specs.Calls.{joined, Whole, calls}
use Rattle.stage.specs.IntoCalls.{Handed, inputs, heard, calls_into}
use Rattle.stage.proofs.Run.{length_outs}
use Rattle.stage.proofs.Drop.{outs_sift, end_sift, strikes_sift}
use Rattle.stage.proofs.Lents.{Lawful, mono_lawful, interleaved_lawful, split_lawful}
use Rattle.dc_remover.specs.declared.DcRemover.{DcRemover}
use Rattle.dc_remover.specs.Process.{mono_stage, pair_stage}
use Rattle.dc_remover.proofs.Streams.{mono_cut, interleaved_cut, split_cut}
use Rattle.agc.specs.declared.Agc.{Agc}
use Rattle.agc.specs.Process.{agc_stage}
use Rattle.agc.proofs.Streams as agc
use Rattle.audio_agc.specs.declared.AudioAgc.{AudioAgc}
use Rattle.audio_agc.specs.Process.{audio_stage}
use Rattle.audio_agc.proofs.Streams as audio-agc
use Rattle.fm.specs.declared.FmDemodulator.{FmDemodulator}
use Rattle.fm.specs.Process.{fm_stage}
use Rattle.fm.proofs.Streams.{fm_cut}
use Rattle.am.specs.declared.AmDemodulator.{AmDemodulator}
use Rattle.am.specs.Process.{am_stage}
use Rattle.am.proofs.Streams.{am_cut}
use Rattle.promises.specs.Dropping.{Without, LeavesNoTrace, WithoutInto, LeavesNoTraceInto}

-- ---- any stage whose calls in a row give what one run over the stream gives

module _ {A S X : Type 0} (g : Stage A A S) (l : Lent A X) (laws : Lawful l) where
  abbrev out : S → X → List A
  out s x = outs g.step g.silence s (l.samples x)

  left : (s : S) (x : X) → l.samples (ran g l s x).left ≡ out s x
  left s x = laws.samples_written (out s x) x (length_outs g.step g.silence s (l.samples x))

  no_trace : (s : S) (xs ys : List X) → calls g l s xs ≡ ran g l s (joined l xs) → calls g l s ys ≡ ran g l s (joined l ys) → Without g l s xs ys → LeavesNoTrace g l s xs ys
  no_trace s xs ys cut cut' w =
      let x = joined l xs in
      let y = joined l ys in
      rw (cut, cut')
      (record {
        outputs =
            left s y
            ∙ ap (outs g.step g.silence s) w.dropped
            ∙ outs_sift g.step g.silence s (l.samples x)
            ∙ ap {B = List A} (pick (marks g.step s (l.samples x))) (sym (left s x));
        state = ap (end g.step s) w.dropped ∙ end_sift g.step s (l.samples x);
        struck = ap (strikes g.step s) w.dropped ∙ strikes_sift g.step s (l.samples x);
      })

module _ {F S : Type 0} (g : Stage (F × F) F S) where
  no_trace_into : (s : S) (xs ys : List (Handed F)) → calls_into g s xs ≡ heard g s (pairs (inputs xs)) → calls_into g s ys ≡ heard g s (pairs (inputs ys)) → WithoutInto g s xs ys
      → LeavesNoTraceInto g s xs ys
  no_trace_into s xs ys cut cut' w =
      let ps = pairs (inputs xs) in
      rw (cut, cut')
      (record {
        outputs = ap (outs g.step g.silence s) w.dropped ∙ outs_sift g.step g.silence s ps;
        state = ap (end g.step s) w.dropped ∙ end_sift g.step s ps;
        struck = ap (strikes g.step s) w.dropped ∙ strikes_sift g.step s ps;
      })

-- ---- the five

pub dc_remover_mono : (s : DcRemover) (xs ys : List (List Float)) → Without mono_stage mono s xs ys → LeavesNoTrace mono_stage mono s xs ys
dc_remover_mono s xs ys w = no_trace mono_stage mono mono_lawful s xs ys (mono_cut s xs w.accepted) (mono_cut s ys w.accepted') w

pub dc_remover_interleaved : (s : DcRemover) (xs ys : List (List Float)) → Without pair_stage interleaved s xs ys → LeavesNoTrace pair_stage interleaved s xs ys
dc_remover_interleaved s xs ys w =
    no_trace pair_stage interleaved interleaved_lawful s xs ys (interleaved_cut s xs w.accepted) (interleaved_cut s ys w.accepted') w

-- two slices are cut at the same places
pub dc_remover_split : (s : DcRemover) (xs ys : List (List Float × List Float)) → Whole split xs → Whole split ys → Without pair_stage split s xs ys
    → LeavesNoTrace pair_stage split s xs ys
dc_remover_split s xs ys v v' w = no_trace pair_stage split split_lawful s xs ys (split_cut s xs w.accepted v) (split_cut s ys w.accepted' v') w

pub agc_dropped : (s : Agc) (xs ys : List (List Float)) → Without agc_stage interleaved s xs ys → LeavesNoTrace agc_stage interleaved s xs ys
agc_dropped s xs ys w = no_trace agc_stage interleaved interleaved_lawful s xs ys (agc.cut s xs w.accepted) (agc.cut s ys w.accepted') w

pub audio_agc_dropped : (s : AudioAgc) (xs ys : List (List Float)) → Without audio_stage mono s xs ys → LeavesNoTrace audio_stage mono s xs ys
audio_agc_dropped s xs ys w = no_trace audio_stage mono mono_lawful s xs ys (audio-agc.cut s xs w.accepted) (audio-agc.cut s ys w.accepted') w

pub fm_dropped : (s : FmDemodulator) (xs ys : List (Handed Float)) → WithoutInto fm_stage s xs ys → LeavesNoTraceInto fm_stage s xs ys
fm_dropped s xs ys w = no_trace_into fm_stage s xs ys (fm_cut s xs w.accepted) (fm_cut s ys w.accepted') w

pub am_dropped : (s : AmDemodulator) (xs ys : List (Handed Float)) → WithoutInto am_stage s xs ys → LeavesNoTraceInto am_stage s xs ys
am_dropped s xs ys w = no_trace_into am_stage s xs ys (am_cut s xs w.accepted) (am_cut s ys w.accepted') w
