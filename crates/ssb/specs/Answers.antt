-- What a demodulator's calls answer. Definitions only.
use Rattle.std.specs.Prelude.{ℕ, Bool, false}
use Rattle.ssb.specs.declared.SsbDemodulator.{SsbDemodulator}
use Rattle.ssb.specs.declared.SsbDone.{SsbDone}

abbrev pub answer : ℕ → SsbDemodulator → ℕ → SsbDone
answer number d count = record { refusal = number; state = d; count = count }

abbrev pub for_sideband : Bool → SsbDemodulator
for_sideband usb = record { is_usb = usb }

-- the record of zeros that a refused making call answers
abbrev pub none : SsbDemodulator
none = for_sideband false
