-- What a decimator's calls answer. Definitions only.
use Rattle.std.specs.Prelude.{ℕ}
use Rattle.decimator.specs.declared.Decimator.{Decimator}
use Rattle.decimator.specs.declared.Decimated.{Decimated}

abbrev pub answer : ℕ → Decimator → ℕ → Decimated
answer number d count = record { refusal = number; state = d; count = count }

-- the decimator d at another phase
abbrev pub at : Decimator → ℕ → Decimator
at d phase = record { factor = d.factor; phase = phase }

-- a decimator that has seen nothing yet
abbrev pub fresh : ℕ → Decimator
fresh factor = record { factor = factor; phase = 0 }

-- the record of zeros that a refused making call answers
abbrev pub none : Decimator
none = record { factor = 0; phase = 0 }
