-- `angle::flat::arc_series` meets its contract, by computation. Assumes nothing.
use mathlib.Core.Path.{refl}
use lib.Ieee.{of_bits, of_int, div}
use Rattle.angle.specs.Numbers.{whole}
use Rattle.angle.specs.Arc.{odds, part}
use Rattle.angle.proofs.flat.arc_series.Goals as goal

pub returns : goal.returns
unfolding odds part whole of_int of_bits div
returns c = refl
