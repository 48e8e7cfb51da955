-- What is known of the lengths where a conversion is not refused, and that conversions that give the same where nothing is refused are the same. Assumes nothing.
use Prim.Native.Nat.{ℕ, zero, suc, ◌%◌}
use mathlib.Core.Path.{◌≡◌, refl, sym, ap, subst}
use mathlib.Core.Bool.{Bool, true, ◌&&◌}
use mathlib.Core.List.{List}
use lib.ListN.{length}
use lib.Ieee.{Float}
use lib.Dec.{T, eqb, eqb→eq}
use lib.Ieee.Fits.{and_l, and_r}
use Rattle.stage.proofs.Refusals.{met}
use Rattle.stage.specs.Length.{is_within, is_even}
use Rattle.stage.specs.Refusal.{answered}
use Rattle.converter.specs.Convert.{refusal_of, converted}

holds : {b : Bool} → b ≡ true → T b
holds e = subst T (sym e) tt

-- where nothing is refused, the target has the source's length, and that is even
pub accepted : (n m : ℕ) → refusal_of n m ≡ 0 → (m ≡ n) × (n % 2 ≡ 0)
accepted n m e =
    let both = holds (met true true (is_within n) (is_even n && eqb n m) true e).length in
    (sym (eqb→eq n m (and_r (is_even n) (eqb n m) both)), eqb→eq (n % 2) 0 (and_l (is_even n) (eqb n m) both))

-- so two conversions that give the same of an even number of bytes give the same, and refuse the same
module _ (f g : List ℕ → List Float) (src : List ℕ) (dst : List Float) (same : length src % 2 ≡ 0 → f src ≡ g src) where
  by_number : (n : ℕ) → refusal_of (length src) (length dst) ≡ n → answered n (f src) dst ≡ answered n (g src) dst
  by_number zero e = ap {B = ℕ × List Float} (λ vs. (0, vs)) (same (accepted (length src) (length dst) e).1)
  by_number (suc n) e = refl

  pub same_converted : converted f src dst ≡ converted g src dst
  same_converted = by_number (refusal_of (length src) (length dst)) refl
