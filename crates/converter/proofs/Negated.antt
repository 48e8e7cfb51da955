-- A byte's value negated is that divided by -127.5: of each of the 256 bytes, by computation. Assumes nothing.
use Prim.Native.Nat.{ℕ, suc, ◌<◌}
use native.Mathlib.Nat.{zero-add}
use mathlib.Core.Path.{◌≡◌, refl, sym, ap, ◌∙◌}
use mathlib.Core.List.{List, [], ◌∷◌}
use lib.ListN.{get_or}
use lib.Ieee.{Float, nan, binary32, sub, div, neg, of_int, of_bits}
use Rattle.stage.specs.Counted.{counted_from}
use Rattle.stage.proofs.Counted.{counted_at}
use Rattle.converter.specs.Convert.{negated_of, divided_by, in_pairs}

-- as the code has it, by the bits of 127.5
abbrev pub minus : Float
minus = neg (of_bits binary32 0x42ff_0000)

bytes_alike : counted_from (divided_by minus) 0 256 ≡ counted_from negated_of 0 256
unfolding sub div neg of_int of_bits divided_by negated_of
bytes_alike = refl

byte_alike : (s : ℕ) → s < 256 → divided_by minus s ≡ negated_of s
byte_alike s h =
    ap (divided_by minus) (sym (zero-add s))
    ∙ sym (counted_at (divided_by minus) 0 256 s nan h)
    ∙ ap (λ (fs : List Float). get_or fs s nan) bytes_alike
    ∙ counted_at negated_of 0 256 s nan h
    ∙ ap negated_of (zero-add s)

pub negated_pairs : (src : List ℕ) → ((i : ℕ) → get_or src i 0 < 256) → in_pairs (divided_by minus) src ≡ in_pairs negated_of src
negated_pairs [] h = refl
negated_pairs (i ∷ []) h = refl
negated_pairs (i ∷ q ∷ r) h = rw (byte_alike q (h 1), negated_pairs r (λ k. h (suc (suc k))))
