-- Lists mixed place by place: how many, what comes next, a mix in two parts, and where two mixes are the same. Assumes nothing.
use Prim.Native.Nat.{ℕ, zero, suc, ◌+◌, ◌≤◌, ◌<◌}
use native.Mathlib.Numerals.{add-one}
use native.Mathlib.Omega.{arith}
use mathlib.Core.Path.{◌≡◌, refl, sym, ap, ◌∙◌}
use mathlib.Core.Logic.{⊎_elim}
use mathlib.Core.Bool.{Bool}
use mathlib.Core.List.{List, [], ◌∷◌, ◌++◌}
use lib.ListN.{length, get_or, drop, get_or-eq_default}
use lib.Seq.{drop-cons}
use lib.Ieee.{Float, nan}
use Rattle.fir.proofs.Counting.{lt_or_ge}
use Rattle.ssb.specs.Sideband.{sideband, mixed}

module _ (usb : Bool) where
  pub mixed_length : (is sums : List Float) → length is ≡ length sums → length (mixed usb is sums) ≡ length sums
  mixed_length [] [] e = refl
  mixed_length [] (s ∷ ss) e = absurd (omega arith)
  mixed_length (i ∷ is) [] e = absurd (omega arith)
  mixed_length (i ∷ is) (s ∷ ss) e = omega (arith, mixed_length is ss (omega arith))

  pub mixed_next : (is sums : List Float) (k : ℕ) → k < length is → k < length sums
      → mixed usb (drop k is) (drop k sums) ≡ sideband usb (get_or is k nan) (get_or sums k nan) ∷ mixed usb (drop (k + 1) is) (drop (k + 1) sums)
  mixed_next is sums k hi hs = rw (add-one, drop-cons is k nan hi, drop-cons sums k nan hs)

  pub mixed_append : (is sums js tums : List Float) → length is ≡ length sums
      → mixed usb (is ++ js) (sums ++ tums) ≡ mixed usb is sums ++ mixed usb js tums
  mixed_append [] [] js tums e = refl
  mixed_append [] (s ∷ ss) js tums e = absurd (omega arith)
  mixed_append (i ∷ is) [] js tums e = absurd (omega arith)
  mixed_append (i ∷ is) (s ∷ ss) js tums e = ap {B = List Float} (λ r. sideband usb i s ∷ r) (mixed_append is ss js tums (omega arith))

  -- what stands at a place
  mixed_get : (is sums : List Float) (j : ℕ) (none : Float) → j < length is → j < length sums
      → get_or (mixed usb is sums) j none ≡ sideband usb (get_or is j nan) (get_or sums j nan)
  mixed_get [] sums j none hi hs = absurd (omega arith)
  mixed_get (i ∷ is) [] j none hi hs = absurd (omega arith)
  mixed_get (i ∷ is) (s ∷ ss) zero none hi hs = refl
  mixed_get (i ∷ is) (s ∷ ss) (suc j) none hi hs = mixed_get is ss j none (omega arith) (omega arith)

  -- so two mixes are the same where both of their parts are; past the last there is none in either
  pub same_mixed : (is is' sums sums' : List Float) (j : ℕ) (none : Float) → length is ≡ length is' → length is ≡ length sums → length is' ≡ length sums'
      → get_or is j nan ≡ get_or is' j nan → get_or sums j nan ≡ get_or sums' j nan → get_or (mixed usb is sums) j none ≡ get_or (mixed usb is' sums') j none
  same_mixed is is' sums sums' j none e l l' hi hs =
      ⊎_elim
      (λ lt. mixed_get is sums j none lt (omega arith) ∙ (rw (hi, hs)) ∙ sym (mixed_get is' sums' j none (omega arith) (omega arith)))
      (λ (ge : length is ≤ j).
      get_or-eq_default (mixed usb is sums) none (rw (mixed_length is sums l) (omega arith))
      ∙ sym (get_or-eq_default (mixed usb is' sums') none (rw (mixed_length is' sums' l') (omega arith))))
      (lt_or_ge j (length is))
