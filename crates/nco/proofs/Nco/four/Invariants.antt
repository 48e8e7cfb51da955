-- The loops of `nco::Nco::four`: what is said of all is said of those so far, and what is mixed, narrowed, and then the mixing of the rest is that of the whole. Assumes nothing.
use Rattle.std.proofs.Common.{◌≡◌, ◌*◌, take, length}
use Rattle.std.specs.List.{list_all}
use Rattle.number.proofs.Eights.{is_number}
use Rattle.nco.specs.Blocks.{ahead}
use Rattle.nco.proofs.Ahead.{widened}
use Rattle.nco.proofs.Nco.four.Given as goal

abbrev pub invariant-loop-x : goal.invariant-loop-x
invariant-loop-x l = l.numbers ≡ list_all is_number (take l.x-index l.iq)

abbrev pub invariant-loop-k : goal.invariant-loop-k
invariant-loop-k l = (length l.wide ≡ 8) × (widened l.self l.wide l.iq (2 * l.k) l.turn ≡ ahead l.self l.iq 0 l.fn.first)
