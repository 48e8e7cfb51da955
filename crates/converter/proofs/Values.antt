-- The values of a slice of bytes taken in pairs: as many as there are bytes, one pair at a time, and where Q's are plain, each byte's. Assumes nothing.
use Prim.Native.Nat.{ℕ, suc, ◌+◌, ◌%◌, ◌<◌}
use native.Mathlib.Numerals.{add-one}
use native.Mathlib.Omega.{arith}
use mathlib.Core.Path.{◌≡◌, refl, ap}
use mathlib.Core.List.{List, [], ◌∷◌}
use lib.ListN.{length, get_or, drop}
use lib.Seq.{drop-cons}
use lib.Ieee.{Float}
use Rattle.converter.specs.Convert.{sample_of, samples, in_pairs}

module _ (f : ℕ → Float) where
  pub pairs_length : (src : List ℕ) → length src % 2 ≡ 0 → length (in_pairs f src) ≡ length src
  pairs_length [] h = refl
  pairs_length (i ∷ []) h = absurd (omega arith)
  pairs_length (i ∷ q ∷ r) h = ap {B = ℕ} (λ n. suc (suc n)) (pairs_length r (omega arith))

  pub next_pair : (src : List ℕ) (i : ℕ) → i + 1 < length src
      → in_pairs f (drop i src) ≡ sample_of (get_or src i 0) ∷ f (get_or src (i + 1) 0) ∷ in_pairs f (drop (i + 2) src)
  next_pair src i h =
      let one : i < length src = omega arith in
      let two : suc i < length src = omega arith in
      let e₁ : i + 1 ≡ suc i = add-one i in
      let e₂ : i + 2 ≡ suc (suc i) = omega arith in
      rw (e₁, e₂, drop-cons src i 0 one, drop-cons src (suc i) 0 two)

pub plain_pairs : (src : List ℕ) → length src % 2 ≡ 0 → in_pairs sample_of src ≡ samples src
plain_pairs [] h = refl
plain_pairs (i ∷ []) h = absurd (omega arith)
plain_pairs (i ∷ q ∷ r) h = ap {B = List Float} (λ vs. sample_of i ∷ sample_of q ∷ vs) (plain_pairs r (omega arith))
