-- The oscillator's work, as the Rust's `mix_scalar`: f64, each product and each sum rounded once. Definitions only.
use Rattle.std.specs.Prelude.{List, Float}
use Rattle.std.specs.Float.{binary64}
use Rattle.std.specs.Float.Ieee.{add, sub, mul, div, neg}
use Rattle.number.specs.Narrow.{narrowed}
use Rattle.angle.specs.Numbers.{TAU}
use Rattle.angle.specs.Turn.{sined, cosined}
use Rattle.stage.specs.Floats.{plus_zero}
use Rattle.stage.specs.Run.{Answer, kept, outs, end}
use Rattle.stage.specs.Layout.{pairs, flat}
use Rattle.nco.specs.declared.Nco.{Nco}
use Rattle.nco.specs.declared.turn.Turn.{Turn}

-- ((2 x PI) x frequency) / rate
unfoldable pub increment_of : Float → Float → Float
increment_of freq rate = div binary64 (mul binary64 TAU freq) rate

-- at a phase, with an increment and its cosine and sine, by which each sample turns on
unfoldable pub tuned_at : Float → Float → Nco
tuned_at phase inc = record { phase = phase; phase_inc = inc; rotator_i = cosined inc; rotator_q = sined inc }

-- sine and cosine are taken afresh at the start of each call
abbrev pub begins : Nco → Turn
begins s = record { cosine = cosined s.phase; sine = sined s.phase; phase = s.phase }

-- I x cos + Q x sin and -I x sin + Q x cos, each narrowed
unfoldable pub mixed_at : Turn → Float × Float → Float × Float
mixed_at t p =
    let i = p.0 in
    let q = p.1 in (
      narrowed (add binary64 (mul binary64 i t.cosine) (mul binary64 q t.sine)),
      narrowed (add binary64 (mul binary64 (neg i) t.sine) (mul binary64 q t.cosine)),
    )

-- one sample on: turned by the rotator, and one rounded addition to the phase
unfoldable pub spun : Nco → Turn → Turn
spun s t =
    record {
      cosine = sub binary64 (mul binary64 t.cosine s.rotator_i) (mul binary64 t.sine s.rotator_q);
      sine = add binary64 (mul binary64 t.cosine s.rotator_q) (mul binary64 t.sine s.rotator_i);
      phase = add binary64 t.phase s.phase_inc;
    }

-- no pair is struck here: NaN and infinities pass
unfoldable pub spin : Nco → Turn → Float × Float → Answer (Float × Float) Turn
spin s t p = kept (mixed_at t p) (spun s t)

-- what stands in the slice afterwards, and the phase after the last pair
unfoldable pub mixed_outs : Nco → List Float → List Float
mixed_outs s iq = flat (outs (spin s) (plus_zero, plus_zero) (begins s) (pairs iq))

unfoldable pub phase_after : Nco → List Float → Float
phase_after s iq = (end (spin s) (begins s) (pairs iq)).phase
