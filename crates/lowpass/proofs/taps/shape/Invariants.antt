-- `lowpass::taps::shape` meets its contract. The loop's invariant: the places before i hold their taps, and the rest are to come. Assumes nothing.
use Prim.Native.Nat.{◌-◌}
use lib.ListN.{length}
use Rattle.stage.specs.Counted.{counted_from}
use Rattle.stage.proofs.Filling.{Filling}
use Rattle.lowpass.specs.Lowpass.{unscaled, shapes}
use Rattle.lowpass.proofs.taps.shape.Given as goal

abbrev pub invariant-loop-i : goal.invariant-loop-i
invariant-loop-i l =
    Filling (shapes (length l.initial.taps) l.cutoff) l.i (counted_from (unscaled (length l.initial.taps - 1) l.cutoff) l.i (length l.initial.taps - l.i)) l.taps
