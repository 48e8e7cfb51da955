-- `root::root_bits` meets its contract: the field tells a subnormal number from a normal one (`Patterns.antt`). Assumes nothing.
use mathlib.Core.Path.{sym, ◌∙◌}
use Rattle.root.proofs.Patterns.{at_subnormal, at_normal}
use Rattle.root.proofs.root_bits.Goals as goal

pub returns-then-field-eq0 : goal.returns-then-field-eq0
returns-then-field-eq0 c =
    (c.root_parts.ensures.0, c.root_parts.ensures.1 ∙ sym (at_subnormal c.args.b c.requires.0 c.requires.1 c.if-field-eq0.true))

pub returns : goal.returns
returns c =
    (c.root_parts-2.ensures.0, c.root_parts-2.ensures.1 ∙ sym (at_normal c.args.b c.requires.1 c.if-field-eq0.false))
