-- What a call works with stays the same over calls in a row. Assumes nothing.
use mathlib.Core.Path.{◌∙◌}
use Rattle.ssb.specs.declared.lent.Lent.{Lent}
use Rattle.ssb.specs.Lent.{Same}

pub same_again : {a b c : Lent} → Same a b → Same b c → Same a c
same_again s t =
    record {
      is_usb = t.is_usb ∙ s.is_usb;
      taps = t.taps ∙ s.taps;
      q_place = t.q_place ∙ s.q_place;
      i_place = t.i_place ∙ s.i_place;
      q_long = t.q_long ∙ s.q_long;
      i_long = t.i_long ∙ s.i_long;
    }
