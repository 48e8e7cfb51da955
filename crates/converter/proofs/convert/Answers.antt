-- `converter::convert` meets its contract: in pairs, with both divided by 127.5, every byte is converted. Assumes nothing.
use mathlib.Core.Path.{◌∙◌}
use lib.Ieee.{binary32, of_bits}
use Rattle.converter.specs.Convert.{sample_of, divided_by, samples, in_pairs}
use Rattle.converter.proofs.Accepted.{same_converted}
use Rattle.converter.proofs.Values.{plain_pairs}
use Rattle.converter.proofs.convert.Goals as goal

pub returns : goal.returns
unfolding of_bits divided_by sample_of
returns c = c.convert_by.ensures ∙ same_converted (in_pairs (divided_by (of_bits binary32 0x42ff_0000))) samples c.args.src.now c.args.dst.now (plain_pairs c.args.src.now)
