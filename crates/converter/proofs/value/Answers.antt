-- `converter::value` meets its contract: the body is the definition, with 127.5 by its bits. Assumes nothing.
use mathlib.Core.Path.{refl}
use lib.Ieee.{sub, div, of_int, of_bits}
use Rattle.converter.specs.Convert.{divided_by}
use Rattle.converter.proofs.value.Goals as goal

pub returns : goal.returns
unfolding sub div of_int of_bits divided_by
returns c = refl
