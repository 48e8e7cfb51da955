-- What a stream of bytes gives, as document 01 has the demo: convert, split, `with_factor(10)` on each half, FM without de-emphasis, f32
-- little-endian. The parts are the definitions that the stages' own contracts cite. Definitions only.
use Rattle.std.specs.Prelude.{ℕ, List, Float}
use Rattle.stage.specs.Floats.{plus_zero}
use Rattle.stage.specs.Run.{outs, end}
use Rattle.stage.specs.Layout.{pairs, zip, firsts, seconds}
use Rattle.converter.specs.Convert.{samples}
use Rattle.fir.specs.Filter as filter
use Rattle.fir.specs.Dot.{every_tap}
use Rattle.fm.specs.declared.FmDemodulator.{FmDemodulator}
use Rattle.fm.specs.Step.{fm_answer}
use Rattle.receiver.specs.Bytes.{little_endian}
use Rattle.receiver.specs.declared.Receiver.{Receiver}

-- what goes from one block to the next: the phase of both halves, the last of each, and the demodulator
pub record Memory : Type 0 where
  pub phase : ℕ
  pub i : List Float
  pub q : List Float
  pub fm : FmDemodulator

abbrev pub memory : Receiver → List Float → List Float → Memory
memory r i q = record { phase = r.phase; i = i; q = q; fm = r.fm }

-- I and Q of each pair of bytes
abbrev pub signal : List ℕ → List (Float × Float)
signal bytes = pairs (samples bytes)

module _ (taps : List Float) where
  -- a half, before and after a block
  abbrev pub half : ℕ → List Float → filter.Memory Float
  half phase history = record { phase = phase; history = history }

  abbrev pub thinned : ℕ → List Float → List Float → List Float
  thinned phase history xs = filter.filter_outs (every_tap 10 taps) (half phase history) xs

  abbrev pub half_end : ℕ → List Float → List Float → filter.Memory Float
  half_end phase history xs = filter.filter_end (every_tap 10 taps) (half phase history) xs

  -- the pairs that are left of ten
  unfoldable pub tenth : Memory → List (Float × Float) → List (Float × Float)
  tenth m ps = zip (thinned m.phase m.i (firsts ps)) (thinned m.phase m.q (seconds ps))

  -- the samples that are heard of pairs, and what is remembered then
  unfoldable pub heard : Memory → List (Float × Float) → List Float
  heard m ps = outs fm_answer plus_zero m.fm (tenth m ps)

  unfoldable pub left : Memory → List (Float × Float) → Memory
  left m ps =
      record {
        phase = (half_end m.phase m.i (firsts ps)).phase;
        i = (half_end m.phase m.i (firsts ps)).history;
        q = (half_end m.phase m.q (seconds ps)).history;
        fm = end fm_answer m.fm (tenth m ps);
      }

  -- of a block of bytes: the bytes of its sound, and what is remembered then
  unfoldable pub sound : Memory → List ℕ → List ℕ
  sound m bytes = little_endian (heard m (signal bytes))

  unfoldable pub after : Memory → List ℕ → Memory
  after m bytes = left m (signal bytes)
