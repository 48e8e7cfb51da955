-- Laws of the layouts: an interleaved list and its pairs, two lists side by side, and how each goes over a cut. Assumes nothing.
use Prim.Native.Nat.{ℕ, zero, suc, ◌+◌, ◌*◌, ◌/◌, ◌%◌, ◌<◌, ◌≤◌}
use native.Mathlib.Numerals.{add-one}
use native.Mathlib.Omega.{arith}
use mathlib.Core.Path.{◌≡◌, refl, ap}
use mathlib.Core.Bool.{true}
use mathlib.Core.List.{List, [], ◌∷◌, ◌++◌}
use lib.ListN.{length, get_or, take, drop}
use lib.Seq.{drop-cons}
use borrow.Author.Tests.{eqb-true}
use Rattle.stage.specs.Length.{is_even}
use Rattle.stage.specs.Layout.{pairs, flat, zip, firsts, seconds}

module _ {X : Type 0} where
  -- ---- interleaved

  pub flat_append : (ps qs : List (X × X)) → flat (ps ++ qs) ≡ flat ps ++ flat qs
  flat_append [] qs = refl
  flat_append (p ∷ ps) qs = ap {B = List X} (λ xs. p.0 ∷ p.1 ∷ xs) (flat_append ps qs)

  -- cut between two pairs, the pairs of the whole are those of the parts
  pub pairs_append : (xs ys : List X) → is_even (length xs) ≡ true → pairs (xs ++ ys) ≡ pairs xs ++ pairs ys
  pairs_append xs ys h = cut xs (eqb-true _ _ h)
    where
      cut : (xs : List X) → length xs % 2 ≡ 0 → pairs (xs ++ ys) ≡ pairs xs ++ pairs ys
      cut [] e = refl
      cut (x ∷ []) e = absurd (omega arith)
      cut (x ∷ y ∷ r) e = ap {B = List (X × X)} (λ ps. (x, y) ∷ ps) (cut r (omega arith))

  pub pairs_flat : (ps : List (X × X)) → pairs (flat ps) ≡ ps
  pairs_flat [] = refl
  pairs_flat (p ∷ ps) = ap {B = List (X × X)} (λ qs. p ∷ qs) (pairs_flat ps)

  pub flat_pairs : (xs : List X) → is_even (length xs) ≡ true → flat (pairs xs) ≡ xs
  flat_pairs xs h = back xs (eqb-true _ _ h)
    where
      back : (xs : List X) → length xs % 2 ≡ 0 → flat (pairs xs) ≡ xs
      back [] e = refl
      back (x ∷ []) e = absurd (omega arith)
      back (x ∷ y ∷ r) e = ap {B = List X} (λ ys. x ∷ y ∷ ys) (back r (omega arith))

  -- the pair at i heads those from i on
  pub pairs_drop : (xs : List X) (i : ℕ) (d : X) → i + 1 < length xs
      → pairs (drop i xs) ≡ (get_or xs i d, get_or xs (i + 1) d) ∷ pairs (drop (i + 2) xs)
  pairs_drop xs i d h =
      let e₁ : i + 1 ≡ suc i = add-one i in
      let e₂ : i + 2 ≡ suc (suc i) = omega arith in
      let h₀ : i < length xs = omega arith in
      let h₁ : suc i < length xs = omega arith in
      rw (e₁, e₂, drop-cons xs i d h₀, drop-cons xs (suc i) d h₁)

  -- the pair k of the first r
  pub pair_next : (xs : List X) (r k : ℕ) (d : X) → k < length xs / 2 → k < r
      → drop k (take r (pairs xs)) ≡ (get_or xs (2 * k) d, get_or xs (2 * k + 1) d) ∷ drop (k + 1) (take r (pairs xs))
  pair_next [] r k d h m = absurd (omega arith)
  pair_next (x ∷ []) r k d h m = absurd (omega arith)
  pair_next (x ∷ y ∷ xs) zero k d h m = absurd (omega arith)
  pair_next (x ∷ y ∷ xs) (suc r) zero d h m = refl
  pair_next (x ∷ y ∷ xs) (suc r) (suc k) d h m =
      let e₀ : 2 * suc k ≡ suc (suc (2 * k)) = omega arith in
      let e₁ : 2 * suc k + 1 ≡ suc (suc (2 * k + 1)) = omega arith in
      let e₂ : suc k + 1 ≡ suc (k + 1) = omega arith in
      rw (e₁, e₀, e₂) (pair_next xs r k d (omega arith) (omega arith))

  -- what is left over is no pair
  pub pairs_few : (xs : List X) → length xs ≤ 1 → pairs xs ≡ []
  pairs_few [] h = refl
  pairs_few (x ∷ []) h = refl
  pairs_few (x ∷ y ∷ r) h = absurd (omega arith)

  pub length_pairs : (xs : List X) → length (pairs xs) ≡ length xs / 2
  length_pairs [] = refl
  length_pairs (x ∷ []) = refl
  length_pairs (x ∷ y ∷ r) = omega (arith, length_pairs r)

  -- ---- side by side

  pub zip_append : (xs ys us vs : List X) → length xs ≡ length ys → zip (xs ++ us) (ys ++ vs) ≡ zip xs ys ++ zip us vs
  zip_append [] [] us vs e = refl
  zip_append [] (y ∷ ys) us vs e = absurd (omega arith)
  zip_append (x ∷ xs) [] us vs e = absurd (omega arith)
  zip_append (x ∷ xs) (y ∷ ys) us vs e = ap {B = List (X × X)} (λ ps. (x, y) ∷ ps) (zip_append xs ys us vs (omega arith))

  pub firsts_append : (ps qs : List (X × X)) → firsts (ps ++ qs) ≡ firsts ps ++ firsts qs
  firsts_append [] qs = refl
  firsts_append (p ∷ ps) qs = ap {B = List X} (λ r. p.0 ∷ r) (firsts_append ps qs)

  pub seconds_append : (ps qs : List (X × X)) → seconds (ps ++ qs) ≡ seconds ps ++ seconds qs
  seconds_append [] qs = refl
  seconds_append (p ∷ ps) qs = ap {B = List X} (λ r. p.1 ∷ r) (seconds_append ps qs)

  -- ---- how many

  pub length_firsts : (ps : List (X × X)) → length (firsts ps) ≡ length ps
  length_firsts [] = refl
  length_firsts (p ∷ ps) = ap suc (length_firsts ps)

  pub length_seconds : (ps : List (X × X)) → length (seconds ps) ≡ length ps
  length_seconds [] = refl
  length_seconds (p ∷ ps) = ap suc (length_seconds ps)

  pub length_zip : (xs ys : List X) → length ys ≡ length xs → length (zip xs ys) ≡ length xs
  length_zip [] ys e = refl
  length_zip (x ∷ xs) [] e = absurd (omega arith)
  length_zip (x ∷ xs) (y ∷ ys) e = ap suc (length_zip xs ys (omega arith))

  pub length_flat : (ps : List (X × X)) → length (flat ps) ≡ 2 * length ps
  length_flat [] = refl
  length_flat (p ∷ ps) = omega (arith, length_flat ps)
