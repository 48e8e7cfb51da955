-- Laws of what a call is lent, the same for each layout: outputs written are read back, parts joined are samples in a row, fewer samples still meet the demands. Assumes nothing.
use Prim.Native.Nat.{ℕ, ◌≤◌, ◌%◌}
use native.Mathlib.Omega.{arith}
use mathlib.Core.Path.{◌≡◌, refl, sym, ap, ◌∙◌}
use mathlib.Core.Bool.{true, ◌&&◌, and-eq-true_iff}
use mathlib.Core.List.{List, [], ◌∷◌, ◌++◌, append-nil}
use lib.ListN.{length, drop_of_length-le}
use borrow.Author.Tests.{eqb-true, eq-eqb, leb-true, le-leb}
use Rattle.stage.specs.Length.{LONGEST, is_within, is_even}
use Rattle.stage.specs.Layout.{flat, zip, firsts, seconds, over}
use Rattle.stage.specs.Lent.{Lent, mono, interleaved, split}
use Rattle.stage.proofs.Layouts.{flat_append, pairs_append, pairs_flat, length_pairs, zip_append, firsts_append, seconds_append, length_firsts, length_seconds, length_zip, length_flat}

pub record Lawful {A X : Type 0} (l : Lent A X) : Type 0 where
  pub samples_lay : (ps : List A) → l.samples (l.lay ps) ≡ ps
  pub written_lay : (os ps : List A) → length os ≡ length ps → l.written os (l.lay ps) ≡ l.lay os
  pub samples_written : (os : List A) (x : X) → length os ≡ length (l.samples x) → l.samples (l.written os x) ≡ os
  pub samples_join : (x y : X) → l.whole x ≡ true → l.samples (l.join x y) ≡ l.samples x ++ l.samples y
  pub written_join : (os ps : List A) (x y : X) → l.whole x ≡ true → length os ≡ length (l.samples x)
      → l.written (os ++ ps) (l.join x y) ≡ l.join (l.written os x) (l.written ps y)
  pub within_lay : (ps : List A) (x : X) → length ps ≤ length (l.samples x) → l.within x ≡ true → l.within (l.lay ps) ≡ true
  pub even_lay : (ps : List A) → l.even (l.lay ps) ≡ true

-- a shorter slice is within the limit too
pub within_shorter : (n m : ℕ) → n ≤ m → is_within m ≡ true → is_within n ≡ true
within_shorter n m h w = let k : m ≤ LONGEST = leb-true _ _ w in le-leb n LONGEST (omega arith)

module _ {F : Type 0} where
  pub mono_lawful : Lawful {A = F} mono
  mono_lawful =
      record {
        samples_lay = λ ps. refl;
        written_lay = λ os ps e. refl;
        samples_written = λ os x e. refl;
        samples_join = λ x y w. refl;
        written_join = λ os ps x y w e. refl;
        within_lay = λ ps x h w. within_shorter (length ps) (length x) h w;
        even_lay = λ ps. refl;
      }

  flat_even : (ps : List (F × F)) → is_even (length (flat ps)) ≡ true
  flat_even ps = let e = length_flat ps in eq-eqb (length (flat ps) % 2) 0 (omega arith)

  pub interleaved_lawful : Lawful {A = F × F} interleaved
  interleaved_lawful =
      record {
        samples_lay = pairs_flat;
        written_lay = λ os ps e. refl;
        samples_written = λ os x e. pairs_flat os;
        samples_join = λ x y w. pairs_append x y w;
        written_join = λ os ps x y w e. flat_append os ps;
        within_lay = λ ps x h w. let e = length_flat ps in let d = length_pairs x in within_shorter (length (flat ps)) (length x) (omega arith) w;
        even_lay = flat_even;
      }

  -- ---- side by side

  zip_back : (ps : List (F × F)) → zip (firsts ps) (seconds ps) ≡ ps
  zip_back [] = refl
  zip_back (p ∷ ps) = ap {B = List (F × F)} (λ qs. p ∷ qs) (zip_back ps)

  -- as many pairs as the shorter has
  zip_short : (xs ys : List F) → (length (zip xs ys) ≤ length xs) × (length (zip xs ys) ≤ length ys)
  zip_short [] ys = (omega arith, omega arith)
  zip_short (x ∷ xs) [] = (omega arith, omega arith)
  zip_short (x ∷ xs) (y ∷ ys) = let h = zip_short xs ys in (omega arith, omega arith)

  zip_written : (os : List (F × F)) (xs ys : List F) → length os ≡ length (zip xs ys) → zip (over (firsts os) xs) (over (seconds os) ys) ≡ os
  zip_written [] [] ys e = refl
  zip_written [] (x ∷ xs) [] e = refl
  zip_written [] (x ∷ xs) (y ∷ ys) e = absurd (omega arith)
  zip_written (o ∷ os) [] ys e = absurd (omega arith)
  zip_written (o ∷ os) (x ∷ xs) [] e = absurd (omega arith)
  zip_written (o ∷ os) (x ∷ xs) (y ∷ ys) e = ap {B = List (F × F)} (λ ps. o ∷ ps) (zip_written os xs ys (omega arith))

  pub over_all : (os xs : List F) → length os ≡ length xs → over os xs ≡ os
  over_all os xs e = let h : length xs ≤ length os = omega arith in rw (drop_of_length-le xs h, append-nil)

  over_append : (os ps xs ys : List F) → length os ≡ length xs → over (os ++ ps) (xs ++ ys) ≡ over os xs ++ over ps ys
  over_append [] ps [] ys e = refl
  over_append [] ps (x ∷ xs) ys e = absurd (omega arith)
  over_append (o ∷ os) ps [] ys e = absurd (omega arith)
  over_append (o ∷ os) ps (x ∷ xs) ys e = ap {B = List F} (λ r. o ∷ r) (over_append os ps xs ys (omega arith))

  split_within : (ps : List (F × F)) (xs ys : List F) → length ps ≤ length (zip xs ys) → (is_within (length xs) && is_within (length ys)) ≡ true
      → (is_within (length (firsts ps)) && is_within (length (seconds ps))) ≡ true
  split_within ps xs ys h w =
      let b = (and-eq-true_iff (is_within (length xs)) (is_within (length ys))).0 w in
      let short = zip_short xs ys in
      let e₁ = length_firsts ps in
      let e₂ = length_seconds ps in
      (and-eq-true_iff (is_within (length (firsts ps))) (is_within (length (seconds ps)))).1
      (within_shorter (length (firsts ps)) (length xs) (omega arith) b.0, within_shorter (length (seconds ps)) (length ys) (omega arith) b.1)

  split_join : (os ps : List (F × F)) (xs ys us vs : List F) → length xs ≡ length ys → length os ≡ length (zip xs ys)
      → (over (firsts (os ++ ps)) (xs ++ us) ≡ over (firsts os) xs ++ over (firsts ps) us)
      × (over (seconds (os ++ ps)) (ys ++ vs) ≡ over (seconds os) ys ++ over (seconds ps) vs)
  split_join os ps xs ys us vs w e =
      let n = length_zip xs ys (sym w) in
      let e₁ : length (firsts os) ≡ length xs = length_firsts os ∙ e ∙ n in
      let e₂ : length (seconds os) ≡ length ys = length_seconds os ∙ e ∙ n ∙ w in
      (rw (firsts_append os ps) (over_append (firsts os) (firsts ps) xs us e₁), rw (seconds_append os ps) (over_append (seconds os) (seconds ps) ys vs e₂))

  pub split_lawful : Lawful {A = F × F} split
  split_lawful =
      record {
        samples_lay = zip_back;
        written_lay = λ os ps e. rw (over_all (firsts os) (firsts ps) (length_firsts os ∙ e ∙ sym (length_firsts ps)), over_all (seconds os) (seconds ps) (length_seconds os ∙ e ∙ sym (length_seconds ps)));
        samples_written = λ os x e. zip_written os x.0 x.1 e;
        samples_join = λ x y w. zip_append x.0 x.1 y.0 y.1 (eqb-true _ _ w);
        written_join = λ os ps x y w e. let h = split_join os ps x.0 x.1 y.0 y.1 (eqb-true _ _ w) e in rw (h.0, h.1);
        within_lay = λ ps x h w. split_within ps x.0 x.1 h w;
        even_lay = λ ps. refl;
      }
