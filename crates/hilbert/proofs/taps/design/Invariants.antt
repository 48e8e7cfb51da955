-- `hilbert::taps::design` meets its contract. The loop's invariant: the places before i hold their taps, and the rest are to come. Assumes nothing.
use Prim.Native.Nat.{◌-◌}
use lib.ListN.{length}
use Rattle.stage.specs.Counted.{counted_from}
use Rattle.stage.proofs.Filling.{Filling}
use Rattle.hilbert.specs.Taps.{tap_at, hilbert_taps}
use Rattle.hilbert.proofs.taps.design.Given as goal

abbrev pub invariant-loop-i : goal.invariant-loop-i
invariant-loop-i l =
    Filling (hilbert_taps (length l.initial.taps)) l.i (counted_from (tap_at (length l.initial.taps)) l.i (length l.initial.taps - l.i)) l.taps
