-- `root::places` meets its contract, by how many zeros stand above m (`Scale.antt`). Assumes nothing.
use native.Mathlib.Omega.{arith}
use lib.Count.{leading_le}
use Rattle.root.proofs.Scale.{zeros_ge, scales}
use Rattle.root.proofs.places.Goals as goal

pub overflow_sub-s : goal.overflow_sub-s
overflow_sub-s c = omega (arith, zeros_ge c.args.m c.requires.0 c.requires.1)

pub returns : goal.returns
returns c = scales c.args.m c.args.e c.requires.0 c.requires.1
