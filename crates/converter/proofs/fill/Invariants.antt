-- `converter::fill` meets its contract. The loops' invariant: the places of the first pairs hold their values, and those of the rest are to come. Assumes nothing.
use Prim.Native.Nat.{◌*◌}
use lib.ListN.{drop}
use Rattle.stage.proofs.Filling.{Filling}
use Rattle.converter.specs.Convert.{divided_by, in_pairs}
use Rattle.converter.proofs.fill.Given as goal

abbrev pub invariant-loop-k : goal.invariant-loop-k
invariant-loop-k l = Filling (in_pairs (divided_by l.q_by) l.src) (16 * l.k) (in_pairs (divided_by l.q_by) (drop (16 * l.k) l.src)) l.dst

abbrev pub invariant-loop-k-2 : goal.invariant-loop-k-2
invariant-loop-k-2 l = Filling (in_pairs (divided_by l.q_by) l.src) (2 * l.k) (in_pairs (divided_by l.q_by) (drop (2 * l.k) l.src)) l.dst
