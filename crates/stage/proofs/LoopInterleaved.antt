-- The loop of a stage over interleaved pairs in place: the first k are written, the others are to go. Assumes nothing.
use Prim.Native.Nat.{ℕ, suc, ◌+◌, ◌*◌, ◌/◌, ◌%◌, ◌≤◌, ◌<◌}
use native.Mathlib.Numerals.{add-one}
use native.Mathlib.Omega.{arith}
use mathlib.Core.Path.{◌≡◌, sym, ap, ◌∙◌}
use mathlib.Core.Bool.{true}
use mathlib.Core.List.{List, [], ◌∷◌, ◌++◌, append_assoc}
use lib.ListN.{length, get_or, take, drop, set, length-set, length-drop}
use lib.Seq.{take-suc-set, drop-set-lt, lt-length-set, length-take-le}
use borrow.Author.Tests.{eqb-true, eq-eqb}
use Rattle.stage.specs.Length.{is_even}
use Rattle.stage.specs.Run.{Answer, out_of, after, outs, end, strikes}
use Rattle.stage.specs.Layout.{pairs, flat, over}
use Rattle.stage.proofs.Layouts.{pairs_append, pairs_drop, pairs_few, flat_pairs, length_pairs, length_flat}
use Rattle.stage.proofs.Lents.{over_all}
use Rattle.stage.proofs.Run.{length_outs}
use Rattle.stage.proofs.Written.{Written, written_begins, written_set, written_over}
use Rattle.stage.proofs.Going.{Going, tally, tally_le, going_begins, going_by_one, going_ends}

module _ {X : Type 0} where
  -- a pair written at i, behind what stands before it
  pub take_pair : (xs : List X) (i : ℕ) (o : X × X) → i + 1 < length xs → take (i + 2) (set (set xs i o.0) (i + 1) o.1) ≡ take i xs ++ (o.0 ∷ o.1 ∷ [])
  take_pair xs i o h =
      let e₁ : i + 1 ≡ suc i = add-one i in
      let e₂ : i + 2 ≡ suc (suc i) = omega arith in
      let h₀ : i < length xs = omega arith in
      let h₁ : suc i < length xs = omega arith in
      rw (e₁, e₂)
      (take-suc-set (set xs i o.0) (suc i) o.1 (lt-length-set xs i o.0 h₁)
      ∙ ap {B = List X} (λ r. r ++ (o.1 ∷ [])) (take-suc-set xs i o.0 h₀)
      ∙ append_assoc (take i xs) (o.0 ∷ []) (o.1 ∷ []))

  -- where the places before it are whole pairs
  pub pairs_set : (xs : List X) (i : ℕ) (o : X × X) → i % 2 ≡ 0 → i + 1 < length xs
      → pairs (take (i + 2) (set (set xs i o.0) (i + 1) o.1)) ≡ pairs (take i xs) ++ (o ∷ [])
  pairs_set xs i o even h =
      let full : length (take i xs) ≡ i = length-take-le i xs (omega arith) in
      let whole : is_even (length (take i xs)) ≡ true = rw full (eq-eqb _ _ even) in
      rw (take_pair xs i o h) (pairs_append (take i xs) (o.0 ∷ o.1 ∷ []) whole)

  -- and the places after it, as they were
  pub drop_pair : (xs : List X) (i : ℕ) (o : X × X) → drop (i + 2) (set (set xs i o.0) (i + 1) o.1) ≡ drop (i + 2) xs
  drop_pair xs i o = drop-set-lt (i + 2) (set xs i o.0) (i + 1) o.1 (omega arith) ∙ drop-set-lt (i + 2) xs i o.0 (omega arith)

module _ {X S : Type 0} (step : S → X × X → Answer (X × X) S) (silence : X × X) where
  -- from the state s₀ and the slice xs₀, after k pairs with n struck
  pub record InterleavedLoop (s₀ : S) (xs₀ xs : List X) (s : S) (n k : ℕ) : Type 0 where
    pub within : 2 * k ≤ length xs
    pub few : n ≤ k
    pub written : Written xs₀ (2 * k) xs
    pub going : Going step silence s₀ (pairs xs₀) (pairs (take (2 * k) xs)) (pairs (drop (2 * k) xs)) s n

  pub interleaved_begins : (s : S) (xs : List X) → InterleavedLoop s xs xs s 0 0
  interleaved_begins s xs =
      record { within = omega arith; few = omega arith; written = written_begins xs; going = going_begins step silence s (pairs xs) }

  -- a turn whose step answers a; d is what the code's reads give past the end, nan for a slice of floats
  pub interleaved_turns : {s₀ : S} {xs₀ xs : List X} {s : S} {n k : ℕ} {a : Answer (X × X) S} (d : X)
      → InterleavedLoop s₀ xs₀ xs s n k → k < length xs₀ / 2 → step s (get_or xs (2 * k) d, get_or xs (2 * k + 1) d) ≡ a
      → InterleavedLoop s₀ xs₀ (set (set xs (2 * k) (out_of silence a).0) (2 * k + 1) (out_of silence a).1) (after s a) (tally n a) (k + 1)
  interleaved_turns {xs₀ = xs₀} {xs} {k = k} {a} d l h e =
      let i : ℕ = 2 * k in
      let same = l.written.same in
      let next : i + 1 < length xs = omega arith in
      let even : i % 2 ≡ 0 = omega arith in
      let on : 2 * (k + 1) ≡ i + 2 = omega arith in
      let o : X × X = out_of silence a in
      record {
        within = rw (length-set, length-set) (omega arith);
        few = tally_le a l.few;
        written =
            let both : Written xs₀ (i + 1 + 1) (set (set xs i o.0) (i + 1) o.1) = written_set o.1 (written_set o.0 l.written) in
            let two : i + 1 + 1 ≡ i + 2 = omega arith in
            rw on (rw two at both);
        going = rw (on, pairs_set xs i o even next, drop_pair xs i o) (going_by_one step silence e (rw (pairs_drop xs i d next) at l.going));
      }

  pub interleaved_ends : {s₀ : S} {xs₀ xs : List X} {s : S} {n k : ℕ} → InterleavedLoop s₀ xs₀ xs s n k → length xs₀ / 2 ≤ k
      → (xs ≡ over (flat (outs step silence s₀ (pairs xs₀))) xs₀) × (s ≡ end step s₀ (pairs xs₀)) × (n ≡ strikes step s₀ (pairs xs₀))
  interleaved_ends {xs = xs} {k = k} l h =
      let same = l.written.same in
      let done = going_ends step silence (rw (pairs_few (drop (2 * k) xs) (rw length-drop (omega arith))) at l.going) in
      let full : length (take (2 * k) xs) ≡ 2 * k = length-take-le (2 * k) xs l.within in
      let whole : is_even (length (take (2 * k) xs)) ≡ true = eq-eqb _ _ (omega arith) in
      (written_over _ l.written l.within (sym (flat_pairs (take (2 * k) xs) whole) ∙ ap flat done.0), done.1, done.2)

-- over whole pairs all is written
pub interleaved_full : {X S : Type 0} (step : S → X × X → Answer (X × X) S) (silence : X × X) (s : S) (xs : List X) → is_even (length xs) ≡ true
    → over (flat (outs step silence s (pairs xs))) xs ≡ flat (outs step silence s (pairs xs))
interleaved_full step silence s xs h =
    let whole = eqb-true _ _ h in
    let os = outs step silence s (pairs xs) in
    over_all (flat os) xs (omega (arith, length_flat os, length_outs step silence s (pairs xs), length_pairs xs))
