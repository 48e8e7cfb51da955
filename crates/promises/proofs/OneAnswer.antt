-- A contract that is one equation, with all of an answer on one side and a definition on the other, is met by one answer. Assumes nothing.
use mathlib.Core.Path.{◌≡◌, sym, ap, ◌∙◌}

-- `g` is what the definition gives; `told` is what the contract says of an answer, and `back` the answer again, place by place
pub one_answer : {A G : Type 0} {g : G} {told told' : G} (back : G → A) → told ≡ g → told' ≡ g → back told ≡ back told'
one_answer back e e' = ap back (e ∙ sym e')
