-- The loop of `nco::Nco::fours`: a place leads to the same end as the one before. The measure is what is left of the slice. Assumes nothing.
use Rattle.std.proofs.Common.{◌≡◌, ◌*◌, ◌/◌, ◌-◌, ◌≤◌, length}
use Rattle.nco.specs.Blocks.{ahead}
use Rattle.nco.proofs.Nco.fours.Given as goal

abbrev pub invariant-loop-eight : goal.invariant-loop-eight
invariant-loop-eight l =
    (l.fn.from.k ≤ l.place.k) × (l.place.k ≤ length l.iq / 2) × (length l.iq ≡ length l.initial.iq) × (ahead l.self l.iq (2 * l.place.k) l.place.turn ≡ ahead l.self l.initial.iq (2 * l.fn.from.k) l.fn.from.turn)

abbrev pub decreases-loop-eight : goal.decreases-loop-eight
decreases-loop-eight l = length l.iq / 2 - l.place.k
