-- What a receiver's calls answer. Definitions only.
use Rattle.std.specs.Prelude.{ℕ}
use Rattle.stage.specs.Floats.{plus_zero}
use Rattle.fm.specs.State as fm-state
use Rattle.receiver.specs.declared.Receiver.{Receiver}
use Rattle.receiver.specs.declared.Received.{Received}

abbrev pub answer : ℕ → Receiver → ℕ → Received
answer number r count = record { refusal = number; state = r; count = count }

-- a receiver that has heard nothing yet
abbrev pub fresh : Receiver
fresh = record { phase = 0; fm = (fm-state.fresh).state }

-- the record of zeros that a refused making call answers
abbrev pub none : Receiver
none = record { phase = 0; fm = record { last_phase = plus_zero; deemph_alpha = plus_zero; deemph_state = plus_zero } }
