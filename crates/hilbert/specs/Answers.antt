-- What a Hilbert filter's calls answer. Definitions only.
use Rattle.std.specs.Prelude.{ℕ}
use Rattle.hilbert.specs.declared.HilbertDone.{HilbertDone}

abbrev pub answer : ℕ → ℕ → HilbertDone
answer number count = record { refusal = number; count = count }
