-- The cut law: however a stream is cut between pairs into blocks, their sound in a row is that of the stream. By the cut laws of the filter and
-- of the demodulator's run. Assumes nothing.
use Prim.Native.Nat.{ℕ}
use native.Mathlib.Omega.{arith}
use mathlib.Core.Path.{◌≡◌, refl, sym, ap, ◌∙◌}
use mathlib.Core.Bool.{true}
use mathlib.Core.List.{List, [], ◌∷◌, ◌++◌}
use lib.ListN.{length, length-map, length-append}
use lib.Ieee.{Float, binary32, to_bits}
use Rattle.stage.specs.Floats.{plus_zero}
use Rattle.stage.specs.Length.{is_even}
use Rattle.stage.specs.Layout.{firsts, seconds}
use Rattle.stage.proofs.Cut as run
use Rattle.stage.proofs.Layouts.{pairs_append, zip_append, firsts_append, seconds_append, length_firsts, length_seconds}
use Rattle.converter.specs.Convert.{sample_of, samples}
use Rattle.fir.specs.Filter.{count_of, next_phase, kept}
use Rattle.fir.specs.Dot.{every_tap}
use Rattle.fir.proofs.Cut.{kept_length, kept_cut, outs_cut, outs_of_none}
use Rattle.fir.proofs.Counting.{phase_cut}
use Rattle.fm.specs.Step.{fm_answer}
use Rattle.receiver.specs.Bytes.{four_bytes, little_endian}
use Rattle.receiver.specs.Sound.{Memory, signal, half, thinned, tenth, heard, left, sound, after}
use Rattle.receiver.specs.Blocks.{joined, Whole, Fits, sound_in_blocks}
use Rattle.receiver.proofs.Stages.{thinned_length}

-- ---- bytes to pairs, and floats to bytes

samples_append : (a b : List ℕ) → samples (a ++ b) ≡ samples a ++ samples b
samples_append [] b = refl
samples_append (x ∷ a) b = ap {B = List Float} (λ r. sample_of x ∷ r) (samples_append a b)

signal_cut : (a b : List ℕ) → is_even (length a) ≡ true → signal (a ++ b) ≡ signal a ++ signal b
signal_cut a b even = rw samples_append (pairs_append (samples a) (samples b) (rw (length-map a sample_of) even))

bytes_append : (xs ys : List Float) → little_endian (xs ++ ys) ≡ little_endian xs ++ little_endian ys
unfolding little_endian
bytes_append [] ys = refl
bytes_append (x ∷ xs) ys = ap (four_bytes (to_bits binary32 x)) (bytes_append xs ys)

-- ---- pairs

module _ (taps : List Float) where
  module _ (m : Memory) (a b : List (Float × Float)) (fit : Fits taps m) where
    as_many : length (seconds a) ≡ length (firsts a)
    as_many = length_seconds a ∙ sym (length_firsts a)

    -- each half is cut by the filter's law, and both halves go on from one phase
    tenth_cut : tenth taps m (a ++ b) ≡ tenth taps m a ++ tenth taps (left taps m a) b
    unfolding tenth left
    tenth_cut =
        let i-cut = outs_cut (every_tap 10 taps) (omega arith) (half taps m.phase m.i) (firsts a) (firsts b) fit.i in
        let q-cut = outs_cut (every_tap 10 taps) (omega arith) (half taps m.phase m.q) (seconds a) (seconds b) fit.q in
        rw (firsts_append a b, seconds_append a b, i-cut, q-cut)
        (zip_append (thinned taps m.phase m.i (firsts a)) (thinned taps m.phase m.q (seconds a)) (thinned taps p (kept m.i (firsts a)) (firsts b)) (thinned taps q (kept m.q (seconds a)) (seconds b)) same
        ∙ rw as_many)
      where
        p : ℕ
        p = next_phase 10 m.phase (length (firsts a))

        q : ℕ
        q = next_phase 10 m.phase (length (seconds a))

        same : length (thinned taps m.phase m.i (firsts a)) ≡ length (thinned taps m.phase m.q (seconds a))
        same = thinned_length taps m.phase m.i (firsts a) ∙ ap (count_of 10 m.phase) (sym as_many) ∙ sym (thinned_length taps m.phase m.q (seconds a))

    heard_cut : heard taps m (a ++ b) ≡ heard taps m a ++ heard taps (left taps m a) b
    unfolding heard left
    heard_cut = rw tenth_cut (run.outs_cut fm_answer plus_zero m.fm (tenth taps m a) (tenth taps (left taps m a) b))

    left_cut : left taps m (a ++ b) ≡ left taps (left taps m a) b
    unfolding left
    left_cut = rw (firsts_append a b, seconds_append a b, kept_cut m.i (firsts a) (firsts b), kept_cut m.q (seconds a) (seconds b), tenth_cut, length-append (firsts a) (firsts b), phase_cut 10 (omega arith) m.phase (length (firsts a)) (length (firsts b)), run.end_cut fm_answer m.fm (tenth taps m a) (tenth taps (left taps m a) b))

    still_fits : Fits taps (left taps m a)
    unfolding left
    still_fits = record { i = rw kept_length fit.i; q = rw kept_length fit.q }

  -- ---- blocks

  module _ (m : Memory) (a b : List ℕ) (fit : Fits taps m) (even : is_even (length a) ≡ true) where
    pub sound_cut : sound taps m (a ++ b) ≡ sound taps m a ++ sound taps (after taps m a) b
    unfolding sound after
    sound_cut = rw (signal_cut a b even, heard_cut m (signal a) (signal b) fit) (bytes_append (heard taps m (signal a)) (heard taps (left taps m (signal a)) (signal b)))

    pub after_cut : after taps m (a ++ b) ≡ after taps (after taps m a) b
    unfolding after
    after_cut = rw (signal_cut a b even) (left_cut m (signal a) (signal b) fit)

  pub after_fits : (m : Memory) (a : List ℕ) → Fits taps m → Fits taps (after taps m a)
  unfolding after
  after_fits m a fit = still_fits m (signal a) [] fit

  sound_of_none : (m : Memory) → sound taps m [] ≡ []
  unfolding sound heard tenth little_endian
  sound_of_none m = rw (outs_of_none (every_tap 10 taps) (half taps m.phase m.i))

  pub blocks_sound : (m : Memory) (bs : List (List ℕ)) → Fits taps m → Whole bs → sound_in_blocks taps m bs ≡ sound taps m (joined bs)
  blocks_sound m [] fit w = sym (sound_of_none m)
  blocks_sound m (b ∷ bs) fit w =
      ap {B = List ℕ} (λ r. sound taps m b ++ r) (blocks_sound (after taps m b) bs (after_fits m b fit) w.1)
      ∙ sym (sound_cut m b (joined bs) fit w.0)

  -- so two ways to cut one stream give the same bytes
  pub any_blocks : (m : Memory) (bs ds : List (List ℕ)) → Fits taps m → Whole bs → Whole ds → joined bs ≡ joined ds
      → sound_in_blocks taps m bs ≡ sound_in_blocks taps m ds
  any_blocks m bs ds fit wb wd e = blocks_sound m bs fit wb ∙ ap (sound taps m) e ∙ sym (blocks_sound m ds fit wd)
