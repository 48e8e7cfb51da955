-- The loop of `nco::Nco::run`: where it stands leads to the end of the whole mixing. The measure is what is left of the slice. Assumes nothing.
use Rattle.std.proofs.Common.{◌≡◌, ◌*◌, ◌/◌, ◌-◌, ◌≤◌, length}
use Rattle.nco.specs.Mix.{begins}
use Rattle.nco.specs.Blocks.{ahead}
use Rattle.nco.proofs.Nco.run.Given as goal

abbrev pub invariant-loop-place : goal.invariant-loop-place
invariant-loop-place l =
    (l.place.k ≤ length l.iq / 2) × (length l.iq ≡ length l.initial.iq) × (ahead l.self l.iq (2 * l.place.k) l.place.turn ≡ ahead l.self l.initial.iq 0 (begins l.self))

abbrev pub decreases-loop-place : goal.decreases-loop-place
decreases-loop-place l = length l.iq / 2 - l.place.k
