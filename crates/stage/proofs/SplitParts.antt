-- A run over pairs in two slices, worked part by part: a part as interleaved pairs, and the loop to the end m of the shorter slice. Assumes nothing.
use Prim.Native.Nat.{ℕ, ◌+◌, ◌-◌, ◌≤◌, min}
use native.Mathlib.Nat.{zero-add, add-zero}
use native.Mathlib.Omega.{arith}
use native.Mathlib.Decide.{dec_le}
use mathlib.Core.Path.{◌≡◌, refl, sym, ap, ◌∙◌}
use mathlib.Core.List.{List, [], ◌∷◌, ◌++◌, append_assoc}
use lib.ListN.{length, take, drop, length-drop, drop_of_length-le, take-append-drop}
use lib.Seq.{length-take-le}
use borrow.Author.Tests.{eq-eqb}
use Rattle.stage.specs.Layout.{pairs, flat, zip, firsts, seconds}
use Rattle.stage.specs.Lent.{interleaved, split}
use Rattle.stage.specs.Run.{outs}
use Rattle.stage.specs.Stage.{Stage}
use Rattle.stage.specs.Call.{Given, gave, ran}
use Rattle.stage.specs.Calls.{both}
use Rattle.stage.proofs.Run.{length_outs}
use Rattle.stage.proofs.Layouts.{pairs_flat, length_firsts, length_seconds, length_zip}
use Rattle.stage.proofs.Lents.{over_all, split_lawful}
use Rattle.stage.proofs.InParts.{Parted, parted_turns, strikes_le, put_taken, put_left, put_length, cut_part}

module _ {X : Type 0} where
  zip_nil : (xs : List X) → ◌≡◌ {A = List (X × X)} (zip xs []) []
  zip_nil [] = refl
  zip_nil (x ∷ xs) = refl

  -- from the end of the shorter on there are none
  zip_past : (xs ys : List X) (i : ℕ) → min (length xs) (length ys) ≤ i → ◌≡◌ {A = List (X × X)} (zip (drop i xs) (drop i ys)) []
  zip_past xs ys i h = go (dec_le (length xs) (length ys))
    where
      go : Dec (length xs ≤ length ys) → ◌≡◌ {A = List (X × X)} (zip (drop i xs) (drop i ys)) []
      go (yes k) = let g : length xs ≤ i = omega arith in rw (drop_of_length-le xs g)
      go (no k) = let g : length ys ≤ i = omega arith in rw (drop_of_length-le ys g) (zip_nil (drop i xs))

module _ {F S : Type 0} (g : Stage (F × F) (F × F) S) where
  -- as many I as Q, put together, run, and taken apart
  pub split_as_interleaved : (s : S) (xs ys : List F) (r : Given S (List F)) → length xs ≡ length ys → r ≡ ran g interleaved s (flat (zip xs ys))
      → record { refusal = r.refusal; state = r.state; struck = r.struck; left = (firsts (pairs r.left), seconds (pairs r.left)) } ≡ ran g split s (xs, ys)
  split_as_interleaved s xs ys r e is =
      let os : List (F × F) = outs g.step g.silence s (zip xs ys) in
      let n : length os ≡ length xs = length_outs g.step g.silence s (zip xs ys) ∙ length_zip xs ys (sym e) in
      let left = over_all (firsts os) xs (length_firsts os ∙ n) in
      let right = over_all (seconds os) ys (length_seconds os ∙ n ∙ e) in
      rw (is, pairs_flat (zip xs ys), pairs_flat os, left, right)

  -- from the state s₀ and the slices xs₀ and ys₀, at the place k with n struck
  pub record SplitParts (s₀ : S) (xs₀ ys₀ : List F) (m : ℕ) (xs ys : List F) (s : S) (n k : ℕ) : Type 0 where
    pub shorter : m ≡ min (length xs₀) (length ys₀)
    pub within : k ≤ m
    pub few : n ≤ k
    pub same_left : length xs ≡ length xs₀
    pub same_right : length ys ≡ length ys₀
    pub parted : Parted g split s₀ (xs₀, ys₀) (take k xs, take k ys) (drop k xs, drop k ys) s n

  pub split_parts_begin : (s : S) (xs ys : List F) (m : ℕ) → m ≡ min (length xs) (length ys) → SplitParts s xs ys m xs ys s 0 0
  split_parts_begin s xs ys m e =
      record { shorter = e; within = omega arith; few = omega arith; same_left = refl; same_right = refl; parted = rw zero-add }

  module _ {s₀ : S} {xs₀ ys₀ : List F} {m : ℕ} {xs ys : List F} {s : S} {n k : ℕ} (p : SplitParts s₀ xs₀ ys₀ m xs ys s n k) where
    -- the part to e has as many I as Q
    module _ (e : ℕ) (h : k ≤ e) (to : e ≤ m) where
      pub part_left : length (take (e - k) (drop k xs)) ≡ e - k
      part_left = length-take-le (e - k) (drop k xs) (rw length-drop (omega arith))

      pub part_right : length (take (e - k) (drop k ys)) ≡ e - k
      part_right = length-take-le (e - k) (drop k ys) (rw length-drop (omega arith))

      module _ (r : Given S (List F × List F)) (is : r ≡ ran g split s (take (e - k) (drop k xs), take (e - k) (drop k ys))) where
        pub split_part_few : r.struck ≤ e - k
        split_part_few =
            let same = part_right ∙ sym part_left in
            rw (ap (λ (q : Given S (List F × List F)). q.struck) is)
            (omega (arith, strikes_le g.step s (zip (take (e - k) (drop k xs)) (take (e - k) (drop k ys))), length_zip (take (e - k) (drop k xs)) (take (e - k) (drop k ys)) same, part_left))

        -- a turn by that part, whose run gives r
        pub split_parts_turn : length r.left.0 ≡ e - k → length r.left.1 ≡ e - k
            → SplitParts s₀ xs₀ ys₀ m (take k xs ++ (r.left.0 ++ drop (e - k) (drop k xs))) (take k ys ++ (r.left.1 ++ drop (e - k) (drop k ys))) r.state (n + r.struck) e
        split_parts_turn full-left full-right =
            let b : List F × List F = (take (e - k) (drop k xs), take (e - k) (drop k ys)) in
            let rest : List F × List F = (drop e xs, drop e ys) in
            let mx : e ≤ length xs = omega arith in
            let my : e ≤ length ys = omega arith in
            let few = split_part_few in
            let cut : Parted g split s₀ (xs₀, ys₀) (take k xs, take k ys) (b.0 ++ drop e xs, b.1 ++ drop e ys) s n = rw (← cut_part xs k e h, ← cut_part ys k e h) p.parted in
            record {
              shorter = p.shorter;
              within = to;
              few = omega arith;
              same_left = put_length xs r.left.0 k e h mx full-left ∙ p.same_left;
              same_right = put_length ys r.left.1 k e h my full-right ∙ p.same_right;
              parted =
                  rw (
                    put_taken xs r.left.0 k e h mx full-left,
                    put_left xs r.left.0 k e h mx full-left,
                    put_taken ys r.left.1 k e h my full-right,
                    put_left ys r.left.1 k e h my full-right,
                  )
                  (parted_turns g split split_lawful (λ x y z. rw (append_assoc x.0 y.0 z.0, append_assoc x.1 y.1 z.1)) s₀ (xs₀, ys₀) (take k xs, take k ys) b rest s n r
                  (eq-eqb (length b.0) (length b.1) (part_left ∙ sym part_right)) cut is);
            }

    pub split_parts_end : m ≤ k → gave s n (xs, ys) ≡ ran g split s₀ (xs₀, ys₀)
    split_parts_end h =
        let none = zip_past xs ys k (omega arith) in
        let nothing : both split (gave s n (take k xs, take k ys)) (ran g split s (drop k xs, drop k ys)) ≡ gave s n (xs, ys) = rw (none, take-append-drop k xs, take-append-drop k ys, add-zero) in
        sym nothing ∙ p.parted
