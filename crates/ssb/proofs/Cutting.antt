-- The definition over pairs can be cut anywhere: both filters can, and what is mixed place by place can. Assumes nothing.
use Prim.Native.Nat.{◌+◌}
use mathlib.Core.Path.{◌≡◌, refl, sym, ◌∙◌}
use mathlib.Core.Bool.{Bool}
use mathlib.Core.List.{List, [], ◌++◌}
use lib.ListN.{length}
use lib.Ieee.{Float}
use Rattle.stage.specs.Layout.{firsts, seconds}
use Rattle.stage.proofs.Layouts.{firsts_append, seconds_append, length_firsts, length_seconds}
use Rattle.stage.proofs.InTurn.{Cuttable}
use Rattle.fir.specs.Filter.{kept}
use Rattle.fir.specs.Dot.{odd_taps}
use Rattle.fir.specs.Each.{each_outs}
use Rattle.fir.proofs.Each.{each_length, each_cuts}
use Rattle.ssb.specs.Sideband.{Histories, histories, delay, ssb_outs, ssb_end}
use Rattle.ssb.proofs.mixing.Mixed.{mixed_length, mixed_append}

-- histories that fit: of Q taps less one, of I 32
pub record Fits (taps : List Float) (h : Histories) : Type 0 where
  pub q : length taps ≡ length h.q + 1
  pub i : 33 ≡ length h.i + 1

module _ (usb : Bool) (taps : List Float) where
  -- I and the sums are as many as the pairs
  pub i_length : (h : Histories) (ps : List (Float × Float)) → length (each_outs (delay 32) h.i (firsts ps)) ≡ length ps
  i_length h ps = each_length (delay 32) refl h.i (firsts ps) ∙ length_firsts ps

  pub q_length : (h : Histories) (ps : List (Float × Float)) → length (each_outs (odd_taps taps) h.q (seconds ps)) ≡ length ps
  q_length h ps = each_length (odd_taps taps) refl h.q (seconds ps) ∙ length_seconds ps

  pub outs_length : (h : Histories) (ps : List (Float × Float)) → length (ssb_outs usb taps h ps) ≡ length ps
  unfolding ssb_outs
  outs_length h ps =
      mixed_length usb (each_outs (delay 32) h.i (firsts ps)) (each_outs (odd_taps taps) h.q (seconds ps)) (i_length h ps ∙ sym (q_length h ps))
      ∙ q_length h ps

  outs_cut : (h : Histories) (a b : List (Float × Float)) → Fits taps h → ssb_outs usb taps h (a ++ b) ≡ ssb_outs usb taps h a ++ ssb_outs usb taps (ssb_end h a) b
  unfolding ssb_outs
  outs_cut h a b fit =
      rw (firsts_append a b, seconds_append a b, (each_cuts (delay 32) refl).cut_out h.i (firsts a) (firsts b) fit.i, (each_cuts (odd_taps taps) refl).cut_out h.q (seconds a) (seconds b) fit.q)
      (mixed_append usb (each_outs (delay 32) h.i (firsts a)) (each_outs (odd_taps taps) h.q (seconds a))
      (each_outs (delay 32) (kept h.i (firsts a)) (firsts b)) (each_outs (odd_taps taps) (kept h.q (seconds a)) (seconds b))
      (i_length h a ∙ sym (q_length h a)))

  end_cut : (h : Histories) (a b : List (Float × Float)) → Fits taps h → ssb_end h (a ++ b) ≡ ssb_end (ssb_end h a) b
  end_cut h a b fit =
      rw (firsts_append a b, seconds_append a b, (each_cuts (delay 32) refl).cut_end h.i (firsts a) (firsts b) fit.i, (each_cuts (odd_taps taps) refl).cut_end h.q (seconds a) (seconds b) fit.q)

  outs_of_none : (h : Histories) → ssb_outs usb taps h [] ≡ []
  unfolding ssb_outs
  outs_of_none h = rw ((each_cuts (delay 32) refl).none_out h.i)

  pub ssb_cuts : Cuttable (Fits taps) (ssb_outs usb taps) ssb_end
  ssb_cuts =
      record {
        none_out = outs_of_none;
        none_end = λ h j. histories ((each_cuts (odd_taps taps) refl).none_end h.q j) ((each_cuts (delay 32) refl).none_end h.i j);
        cut_out = outs_cut;
        cut_end = end_cut;
      }
