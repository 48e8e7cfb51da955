-- The loop of `nco::Nco::singles`: a place leads to the same end as the one before. Assumes nothing.
use Rattle.std.proofs.Common.{◌≡◌, ◌*◌, length}
use Rattle.nco.specs.Blocks.{ahead}
use Rattle.nco.proofs.Nco.singles.Given as goal

abbrev pub invariant-loop-k : goal.invariant-loop-k
invariant-loop-k l = (length l.iq ≡ length l.initial.iq) × (ahead l.self l.iq (2 * l.k) l.turn ≡ ahead l.self l.initial.iq (2 * l.fn.from.k) l.fn.from.turn)
