-- Laws of a list that is worked out place by place: when two are equal, its parts, its last, and what stands at a place. Assumes nothing.
use Prim.Native.Nat.{ℕ, zero, suc, ◌+◌, ◌<◌}
use native.Mathlib.Nat.{add-zero, zero-add, suc-add}
use native.Mathlib.Omega.{arith}
use mathlib.Core.Path.{◌≡◌, refl, sym, ap, ◌∙◌}
use mathlib.Core.List.{List, [], ◌∷◌, ◌++◌}
use lib.ListN.{get_or}
use Rattle.stage.specs.Counted.{counted_from}

module _ {X : Type 0} where
  -- one more place: the second list's next is the first's
  shifted : (f : ℕ → X) (i j : ℕ) → f (suc i + j) ≡ f (i + suc j)
  shifted f i j =
      let e : suc i + j ≡ i + suc j = omega arith in
      ap f e

  -- two are equal where their elements are
  pub counted_same : (f g : ℕ → X) (i k n : ℕ) → ((j : ℕ) → j < n → f (i + j) ≡ g (k + j)) → counted_from f i n ≡ counted_from g k n
  counted_same f g i k zero h = refl
  counted_same f g i k (suc n) h =
      let first : f i ≡ g k = ap f (sym (add-zero i)) ∙ h 0 (omega arith) ∙ ap g (add-zero k) in
      rw first
      (ap {B = List X} (λ l. g k ∷ l)
      (counted_same f g (suc i) (suc k) n (λ j lt. shifted f i j ∙ h (suc j) (omega arith) ∙ sym (shifted g k j))))

  -- the first m and then the rest
  pub counted_cut : (f : ℕ → X) (i m n : ℕ) → counted_from f i (m + n) ≡ counted_from f i m ++ counted_from f (i + m) n
  counted_cut f i zero n = rw (zero-add, add-zero)
  counted_cut f i (suc m) n =
      let e : suc i + m ≡ i + suc m = omega arith in
      rw (suc-add, ← e) (ap {B = List X} (λ l. f i ∷ l) (counted_cut f (suc i) m n))

  -- the last one
  pub counted_last : (f : ℕ → X) (i n : ℕ) → counted_from f i (suc n) ≡ counted_from f i n ++ (f (i + n) ∷ [])
  counted_last f i zero = rw add-zero
  counted_last f i (suc n) = rw (← shifted f i n) (ap {B = List X} (λ l. f i ∷ l) (counted_last f (suc i) n))

  -- what stands at a place
  pub counted_at : (f : ℕ → X) (i n j : ℕ) (d : X) → j < n → get_or (counted_from f i n) j d ≡ f (i + j)
  counted_at f i zero j d lt = absurd (omega arith)
  counted_at f i (suc n) zero d lt = ap f (sym (add-zero i))
  counted_at f i (suc n) (suc j) d lt = counted_at f (suc i) n j d (omega arith) ∙ shifted f i j
