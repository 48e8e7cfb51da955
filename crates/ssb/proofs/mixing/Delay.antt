-- The delay: the first samples of history and input in a row, as many as the input has. Assumes nothing.
use Prim.Native.Nat.{ℕ, ◌+◌, ◌*◌, ◌<◌}
use native.Mathlib.Nat.{zero-add, add-zero, mul-one}
use native.Mathlib.Omega.{arith}
use mathlib.Core.Path.{◌≡◌, refl, sym, ◌∙◌}
use mathlib.Core.List.{List, ◌++◌}
use lib.ListN.{length, get_or, take, drop, length-append}
use lib.Seq.{length-take-le, get_or-take, get_or-drop, ext_get_or}
use lib.Ieee.{Float, nan}
use Rattle.stage.proofs.Counted.{counted_at}
use Rattle.fir.specs.Filter.{output_at, outputs}
use Rattle.fir.specs.Each.{each_outs}
use Rattle.fir.proofs.Counting.{count_of_each}
use Rattle.fir.proofs.Each.{each_length}
use Rattle.ssb.specs.Sideband.{delay}

module _ (n : ℕ) (h x : List Float) where
  -- what a window begins with
  at_place : (j : ℕ) → output_at (delay n) (h ++ x) (0 + j * 1) ≡ get_or (h ++ x) j nan
  unfolding output_at
  at_place j =
      let some : 0 < n + 1 = omega arith in
      rw (mul-one, zero-add, get_or-take (n + 1) (drop j (h ++ x)) 0 nan some, get_or-drop j (h ++ x) 0 nan, add-zero)

  out_at : (j : ℕ) → j < length x → get_or (each_outs (delay n) h x) j nan ≡ get_or (h ++ x) j nan
  unfolding outputs
  out_at j lt =
      rw (count_of_each (length x)) (counted_at (λ i. output_at (delay n) (h ++ x) (0 + i * 1)) 0 (length x) j nan lt)
      ∙ at_place (0 + j)
      ∙ rw zero-add

  pub delayed : each_outs (delay n) h x ≡ take (length x) (h ++ x)
  delayed =
      let long : length (take (length x) (h ++ x)) ≡ length x = length-take-le (length x) (h ++ x) (rw length-append (omega arith)) in
      ext_get_or nan (each_outs (delay n) h x) (take (length x) (h ++ x)) (each_length (delay n) refl h x ∙ sym long)
      (λ j lt.
      let here : j < length x = rw (each_length (delay n) refl h x) at lt in
      out_at j here ∙ sym (get_or-take (length x) (h ++ x) j nan here))
