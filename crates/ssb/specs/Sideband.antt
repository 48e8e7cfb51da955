-- The SSB demodulator over pairs: I delayed by 32, and the Hilbert filter's sum over Q added or subtracted. Definitions only.
use Rattle.std.specs.Prelude.{ℕ, ◌+◌, Bool, cond, List, map, get_or, Float}
use Rattle.std.specs.Float.{nan, binary32}
use Rattle.std.specs.Float.Ieee.{add, sub}
use Rattle.stage.specs.Layout.{zip, firsts, seconds}
use Rattle.fir.specs.Filter.{Filter, kept}
use Rattle.fir.specs.Each.{each_outs}
use Rattle.fir.specs.Dot.{odd_taps}

-- the sum is added to I (USB) or subtracted from it (LSB)
abbrev pub sideband : Bool → Float → Float → Float
sideband usb i sum = cond usb (add binary32 i sum) (sub binary32 i sum)

-- place by place
abbrev pub mixed : Bool → List Float → List Float → List Float
mixed usb is sums = map (λ p. sideband usb p.0 p.1) (zip is sums)

-- a delay by n samples, as a filter: of each window of n + 1 samples it puts out the first
abbrev pub delay : ℕ → Filter Float Float
delay n = record { taps = n + 1; factor = 1; weigh = λ window. get_or window 0 nan }

-- the last of Q and of I, which later outputs reach back to
pub record Histories : Type 0 where
  pub q : List Float
  pub i : List Float

abbrev pub histories : List Float → List Float → Histories
histories q i = record { q = q; i = i }

-- the outputs of pairs, one for each
unfoldable pub ssb_outs : Bool → List Float → Histories → List (Float × Float) → List Float
ssb_outs usb taps h ps = mixed usb (each_outs (delay 32) h.i (firsts ps)) (each_outs (odd_taps taps) h.q (seconds ps))

-- the histories after them
abbrev pub ssb_end : Histories → List (Float × Float) → Histories
ssb_end h ps = histories (kept h.q (seconds ps)) (kept h.i (firsts ps))
