-- Demand 3 of the filters: two streams, fresh and with the same taps, each cut in its own way into calls that are accepted, that differ only at positions a to
-- b - 1. Outputs whose window does not reach the damage are the same in both, and once the window has left it behind, so is all that is handed on. Assumes nothing.
use Prim.Native.Nat.{ℕ, ◌+◌, ◌-◌, ◌*◌, ◌≤◌, ◌<◌}
use native.Mathlib.Omega.{arith}
use mathlib.Core.Bool.{Bool}
use mathlib.Core.Logic.{◌⊎◌, inl, inr, ⊎_elim}
use mathlib.Core.List.{List}
use lib.ListN.{length}
use lib.Ieee.{Float}
use Rattle.fir.specs.Damage.{DifferWithin, Unseen}
use Rattle.decimator.specs.Stream as decimator-stream
use Rattle.decimator.proofs.Damage as decimator
use Rattle.hilbert.specs.Stream as hilbert-stream
use Rattle.hilbert.proofs.Damage as hilbert
use Rattle.ssb.specs.Stream as ssb-stream
use Rattle.ssb.proofs.Damage as ssb
use Rattle.promises.specs.Damage.{DamagePasses}

-- one factor
pub decimator_damage : (factor : ℕ) (taps : List Float) (a b : ℕ) (xs ys : List decimator-stream.Call)
    → let s = decimator-stream.fresh_with factor taps in
    decimator-stream.AllAccepted taps s xs
    → decimator-stream.AllAccepted taps s ys
    → DifferWithin a b (decimator-stream.stream_of xs) (decimator-stream.stream_of ys)
    → DamagePasses (length taps) factor a b (length (decimator-stream.stream_of xs)) (decimator-stream.called_outs taps s xs) (decimator-stream.called_outs taps s ys)
    (decimator-stream.called_end taps s xs) (decimator-stream.called_end taps s ys)
decimator_damage factor taps a b xs ys ok ok' d =
    record { outputs = decimator.damage_passes factor taps a b xs ys ok ok' d; ends = decimator.damage_forgotten factor taps a b xs ys ok ok' d }

-- an output for each sample counts as factor 1
each : (taps a b j : ℕ) → (j * 1 < a) ⊎ (b + (taps - 1) ≤ j * 1) → Unseen taps a b j
each taps a b j w = ⊎_elim (λ l. inl (omega arith)) (λ g. inr (omega arith)) w

pub hilbert_damage : (taps : List Float) (a b : ℕ) (xs ys : List hilbert-stream.Call)
    → let s = hilbert-stream.fresh_for taps in
    hilbert-stream.AllAccepted taps s xs
    → hilbert-stream.AllAccepted taps s ys
    → DifferWithin a b (hilbert-stream.stream_of xs) (hilbert-stream.stream_of ys)
    → DamagePasses (length taps) 1 a b (length (hilbert-stream.stream_of xs)) (hilbert-stream.called_outs taps s xs) (hilbert-stream.called_outs taps s ys)
    (hilbert-stream.called_end taps s xs) (hilbert-stream.called_end taps s ys)
hilbert_damage taps a b xs ys ok ok' d =
    record { outputs = λ j none w. hilbert.damage_passes taps a b xs ys ok ok' d j none (each (length taps) a b j w); ends = hilbert.damage_forgotten taps a b xs ys ok ok' d }

-- the same sideband; a position is that of a pair
pub ssb_damage : (usb : Bool) (taps : List Float) (a b : ℕ) (xs ys : List ssb-stream.Call)
    → let s = ssb-stream.fresh_for usb in
    ssb-stream.AllAccepted taps s xs
    → ssb-stream.AllAccepted taps s ys
    → DifferWithin a b (ssb-stream.stream_of xs) (ssb-stream.stream_of ys)
    → DamagePasses 65 1 a b (length (ssb-stream.stream_of xs)) (ssb-stream.called_outs taps s xs) (ssb-stream.called_outs taps s ys) (ssb-stream.called_end taps s xs)
    (ssb-stream.called_end taps s ys)
ssb_damage usb taps a b xs ys ok ok' d =
    record { outputs = λ j none w. ssb.damage_passes usb taps a b xs ys ok ok' d j none (each 65 a b j w); ends = ssb.damage_forgotten usb taps a b xs ys ok ok' d }
