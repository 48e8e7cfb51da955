-- `lowpass::taps::scale` meets its contract. The loop's invariant: what is scaled, then the rest scaled, is all scaled. Assumes nothing.
use mathlib.Core.List.{map}
use lib.ListN.{drop}
use Rattle.stage.proofs.Filling.{Filling}
use Rattle.lowpass.specs.Lowpass.{divided_by}
use Rattle.lowpass.proofs.taps.scale.Given as goal

abbrev pub invariant-loop-t : goal.invariant-loop-t
invariant-loop-t l =
    Filling (map (divided_by l.sum) l.initial.taps) l.t-index (map (divided_by l.sum) (drop l.t-index l.taps)) l.taps
