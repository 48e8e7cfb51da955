-- A receiver made: what `new` gives, on acceptance and on refusal. Definitions only.
use Rattle.std.specs.Prelude.{ℕ, true, List, length, replicate, Float}
use Rattle.stage.specs.Floats.{plus_zero}
use Rattle.stage.specs.Refusal.{NONE, refusal_no, unless}
use Rattle.lowpass.specs.Lowpass.{lowpass}
use Rattle.decimator.specs.Making.{cutoff_for}
use Rattle.receiver.specs.Rules.{lengths_fit}
use Rattle.receiver.specs.Answers.{answer, fresh, none}
use Rattle.receiver.specs.declared.Received.{Received}

abbrev pub new_refusal : ℕ → ℕ → ℕ → ℕ
new_refusal taps i q = refusal_no true true true (lengths_fit taps i q) true

-- accepted: the taps of `with_factor(10)`, and two histories of zeros
abbrev pub begun : List Float → List Float → List Float → Received × List Float × List Float × List Float
begun taps i q = (answer NONE fresh 0, lowpass (length taps) (cutoff_for 10), replicate (length i) plus_zero, replicate (length q) plus_zero)

-- refused, a record of zeros, and the slices as they were
abbrev pub made : List Float → List Float → List Float → Received × List Float × List Float × List Float
made taps i q =
    let number = new_refusal (length taps) (length i) (length q) in
    unless number (begun taps i q) (answer number none 0, taps, i, q)
