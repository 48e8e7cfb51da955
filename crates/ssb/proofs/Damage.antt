-- Damage passes: two streams that differ only at pairs a to b - 1, each cut in its own way into accepted calls of a fresh demodulator for the
-- same sideband, give the same output at every position that does not see the damage, and end alike where 64 pairs follow it. Assumes nothing.
use Prim.Native.Nat.{ℕ, ◌+◌, ◌≤◌}
use native.Mathlib.Omega.{arith}
use mathlib.Core.Path.{◌≡◌, refl, sym, ap, ◌∙◌}
use mathlib.Core.Bool.{Bool}
use mathlib.Core.Logic.{inl, inr, ⊎_elim}
use mathlib.Core.List.{List, [], ◌∷◌}
use lib.ListN.{length, get_or}
use lib.Ieee.{Float, nan}
use Rattle.stage.specs.Layout.{firsts, seconds}
use Rattle.stage.proofs.Layouts.{length_firsts, length_seconds}
use Rattle.fir.specs.Dot.{odd_taps}
use Rattle.fir.specs.Each.{each_outs}
use Rattle.fir.specs.Damage.{DifferWithin, Unseen}
use Rattle.fir.proofs.Each.{each_passes, each_forgotten}
use Rattle.ssb.specs.Answers.{for_sideband}
use Rattle.ssb.specs.Sideband.{Histories, histories, delay, ssb_outs, ssb_end}
use Rattle.ssb.specs.Stream.{Call, handed, stream_of, AllAccepted, called_outs, called_end, fresh_for}
use Rattle.ssb.proofs.Halves.{differ_firsts, differ_seconds}
use Rattle.ssb.proofs.mixing.Mixed.{same_mixed}
use Rattle.ssb.proofs.Cutting.{Fits, i_length, q_length}
use Rattle.ssb.proofs.Cut.{obeys, cut}

-- ---- the definition over two streams

module _ (usb : Bool) (taps : List Float) (a b : ℕ) (h : Histories) (x y : List (Float × Float)) (t : length taps ≡ 65) (fit : Fits taps h)
    (d : DifferWithin a b x y) where
  -- the I that is delayed by 32 lies within the window of 65
  i_same : (j : ℕ) → Unseen 65 a b j → get_or (each_outs (delay 32) h.i (firsts x)) j nan ≡ get_or (each_outs (delay 32) h.i (firsts y)) j nan
  i_same j w =
      each_passes (delay 32) refl a b h.i (firsts x) (firsts y) fit.i (differ_firsts a b x y d) j nan
      (⊎_elim (λ l. inl (omega arith)) (λ g. inr (omega arith)) w)

  q_same : (j : ℕ) → Unseen 65 a b j → get_or (each_outs (odd_taps taps) h.q (seconds x)) j nan ≡ get_or (each_outs (odd_taps taps) h.q (seconds y)) j nan
  q_same j w =
      each_passes (odd_taps taps) refl a b h.q (seconds x) (seconds y) fit.q (differ_seconds a b x y d) j nan
      (⊎_elim (λ l. inl (omega arith)) (λ g. inr (omega arith)) w)

  outs_pass : (j : ℕ) (none : Float) → Unseen 65 a b j → get_or (ssb_outs usb taps h x) j none ≡ get_or (ssb_outs usb taps h y) j none
  unfolding ssb_outs
  outs_pass j none w =
      same_mixed usb (each_outs (delay 32) h.i (firsts x)) (each_outs (delay 32) h.i (firsts y)) (each_outs (odd_taps taps) h.q (seconds x))
      (each_outs (odd_taps taps) h.q (seconds y)) j none (i_length usb taps h x ∙ d.long ∙ sym (i_length usb taps h y))
      (i_length usb taps h x ∙ sym (q_length usb taps h x)) (i_length usb taps h y ∙ sym (q_length usb taps h y)) (i_same j w) (q_same j w)

  ends_alike : b + 64 ≤ length x → ssb_end h x ≡ ssb_end h y
  ends_alike far k =
      histories
      (each_forgotten (odd_taps taps) refl a b h.q (seconds x) (seconds y) fit.q (differ_seconds a b x y d) (omega (arith, length_seconds x)) k)
      (each_forgotten (delay 32) refl a b h.i (firsts x) (firsts y) fit.i (differ_firsts a b x y d) (omega (arith, length_firsts x)) k)

-- ---- calls

module _ (usb : Bool) (taps : List Float) (a b : ℕ) (t : length taps ≡ 65) (xs ys : List Call) (okx : AllAccepted taps (fresh_for usb) xs)
    (oky : AllAccepted taps (fresh_for usb) ys) (differ : DifferWithin a b (stream_of xs) (stream_of ys)) where
  fit : Fits taps (fresh_for usb).held
  fit = record { q = t; i = refl }

  passes : (j : ℕ) (none : Float) → Unseen 65 a b j → get_or (called_outs taps (fresh_for usb) xs) j none ≡ get_or (called_outs taps (fresh_for usb) ys) j none
  passes j none w =
      rw ((cut taps (fresh_for usb) xs okx).0, (cut taps (fresh_for usb) ys oky).0)
      (outs_pass usb taps a b (fresh_for usb).held (stream_of xs) (stream_of ys) t fit differ j none w)

  forgotten : b + 64 ≤ length (stream_of xs) → called_end taps (fresh_for usb) xs ≡ called_end taps (fresh_for usb) ys
  forgotten far =
      rw ((cut taps (fresh_for usb) xs okx).1, (cut taps (fresh_for usb) ys oky).1)
      (ap (handed (for_sideband usb)) (ends_alike usb taps a b (fresh_for usb).held (stream_of xs) (stream_of ys) t fit differ far))

-- ---- the theorems

-- output j is taken at pair j; `none` stands for what is past the last
pub damage_passes : (usb : Bool) (taps : List Float) (a b : ℕ) (xs ys : List Call)
    → AllAccepted taps (fresh_for usb) xs → AllAccepted taps (fresh_for usb) ys → DifferWithin a b (stream_of xs) (stream_of ys)
    → (j : ℕ) (none : Float) → Unseen 65 a b j → get_or (called_outs taps (fresh_for usb) xs) j none ≡ get_or (called_outs taps (fresh_for usb) ys) j none
damage_passes usb taps a b [] [] okx oky differ j none w = refl
damage_passes usb taps a b [] (c ∷ cs) okx oky differ j none w =
    passes usb taps a b (obeys taps (fresh_for usb) c oky.0).sixty_five [] (c ∷ cs) okx oky differ j none w
damage_passes usb taps a b (c ∷ cs) ys okx oky differ j none w =
    passes usb taps a b (obeys taps (fresh_for usb) c okx.0).sixty_five (c ∷ cs) ys okx oky differ j none w

-- where 64 pairs or more follow the damage, both end with the same histories
pub damage_forgotten : (usb : Bool) (taps : List Float) (a b : ℕ) (xs ys : List Call)
    → AllAccepted taps (fresh_for usb) xs → AllAccepted taps (fresh_for usb) ys → DifferWithin a b (stream_of xs) (stream_of ys)
    → b + 64 ≤ length (stream_of xs) → called_end taps (fresh_for usb) xs ≡ called_end taps (fresh_for usb) ys
damage_forgotten usb taps a b [] [] okx oky differ far = refl
damage_forgotten usb taps a b [] (c ∷ cs) okx oky differ far =
    forgotten usb taps a b (obeys taps (fresh_for usb) c oky.0).sixty_five [] (c ∷ cs) okx oky differ far
damage_forgotten usb taps a b (c ∷ cs) ys okx oky differ far =
    forgotten usb taps a b (obeys taps (fresh_for usb) c okx.0).sixty_five (c ∷ cs) ys okx oky differ far
