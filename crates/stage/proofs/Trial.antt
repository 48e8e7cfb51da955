-- A block tried: each step is worked as if it kept its sample, and what came out tells afterwards whether each did. Then the run strikes none, and
-- gave just that. Assumes nothing.
use Prim.Native.Nat.{ℕ, suc, ◌+◌, ◌*◌, ◌/◌, ◌%◌, ◌≤◌, ◌<◌}
use native.Mathlib.Numerals.{add-one}
use native.Mathlib.Omega.{arith}
use mathlib.Core.Path.{◌≡◌, sym, ◌∙◌}
use mathlib.Core.Bool.{true}
use mathlib.Core.List.{List, [], ◌∷◌, ◌++◌, map, map-append}
use lib.ListN.{length, get_or, take, drop, set, drop_of_length-le, length-set}
use lib.Seq.{drop-cons, take-suc-set, take_all, lt-length-set}
use lib.Ieee.{Float}
use lib.Ieee.Scale.{finite}
use Rattle.stage.specs.Floats.{all_finite}
use Rattle.stage.specs.Layout.{pairs, flat}
use Rattle.stage.specs.Length.{is_even}
use Rattle.stage.specs.Run.{Answer, kept, outs, end, strikes}
use borrow.Author.Tests.{eqb-true, eq-eqb}
use Rattle.stage.proofs.Both.{both}
use Rattle.stage.proofs.AllFinite.{all_snoc}
use Rattle.stage.proofs.Layouts.{pairs_drop, flat_pairs}
use Rattle.stage.proofs.LoopInterleaved.{pairs_set}
use Rattle.stage.proofs.Going.{Going, going_begins, going_by_one, going_ends}

-- `Fine` is what the last state must tell of those before it, where what came out alone does not; `made` is what is still to be made of that
module _ {S : Type 0} (step : S → Float → Answer Float S) (silence : Float) (Fine : S → Type 0) (made : Float → Float) where
  -- from the state s₀ over xs, of whose first k samples z holds what came out
  pub record MonoTrial (s₀ : S) (xs z : List Float) (s : S) (k : ℕ) : Type 0 where
    pub within : k ≤ length xs
    pub same : length z ≡ length xs
    pub so_far : Fine s → all_finite (take k z) ≡ true → Going step silence s₀ xs (map made (take k z)) (drop k xs) s 0

  pub trial_begins : (s : S) (xs z : List Float) → length z ≡ length xs → MonoTrial s xs z s 0
  trial_begins s xs z e = record { within = omega arith; same = e; so_far = λ f a. going_begins step silence s xs }

  -- a step that keeps its sample where what comes out is finite and the state after it fine
  pub trial_turns : {s₀ : S} {xs z : List Float} {s : S} {k : ℕ} {o : Float} {t : S} (d : Float) → MonoTrial s₀ xs z s k → k < length xs
      → (finite o ≡ true → Fine t → (step s (get_or xs k d) ≡ kept (made o) t) × Fine s) → MonoTrial s₀ xs (set z k o) t (k + 1)
  trial_turns {s₀} {xs} {z} {s} {k} {o} {t} d l h keeps =
      let room : k < length z = omega arith in
      let next : take (k + 1) (set z k o) ≡ take k z ++ (o ∷ []) = rw add-one (take-suc-set z k o room) in
      record {
        within = omega arith;
        same = length-set z k o ∙ l.same;
        so_far = λ f a.
            let each = both (all_finite (take k z)) (finite o) (sym (all_snoc (take k z) o) ∙ (rw next at a)) in
            let q = keeps each.1 f in
            rw (next, map-append made (take k z) (o ∷ []), add-one) (going_by_one step silence q.0 (rw (drop-cons xs k d h) at (l.so_far q.1 each.0)));
      }

  pub trial_ends : {s₀ : S} {xs z : List Float} {s : S} {k : ℕ} → MonoTrial s₀ xs z s k → length xs ≤ k → Fine s → all_finite z ≡ true
      → (map made z ≡ outs step silence s₀ xs) × (s ≡ end step s₀ xs) × (0 ≡ strikes step s₀ xs)
  trial_ends {xs = xs} {z} {k = k} l h f a =
      let full : length z ≤ k = omega arith in
      let all = take_all k z full in
      going_ends step silence (rw (all, drop_of_length-le xs h) at (l.so_far f (rw all a)))

-- the same over interleaved pairs, of which both halves must come out finite
module _ {S : Type 0} (step : S → Float × Float → Answer (Float × Float) S) (silence : Float × Float) where
  -- from the state s₀ over xs, of whose first k pairs z holds what came out
  pub record PairTrial (s₀ : S) (xs z : List Float) (s : S) (k : ℕ) : Type 0 where
    pub within : 2 * k ≤ length xs
    pub same : length z ≡ length xs
    pub whole : length xs % 2 ≡ 0
    pub so_far : all_finite (take (2 * k) z) ≡ true → Going step silence s₀ (pairs xs) (pairs (take (2 * k) z)) (pairs (drop (2 * k) xs)) s 0

  pub pair_trial_begins : (s : S) (xs z : List Float) → length z ≡ length xs → is_even (length xs) ≡ true → PairTrial s xs z s 0
  pair_trial_begins s xs z e w = record { within = omega arith; same = e; whole = eqb-true _ _ w; so_far = λ a. going_begins step silence s (pairs xs) }

  pub pair_trial_turns : {s₀ : S} {xs z : List Float} {s : S} {k : ℕ} {o : Float × Float} {t : S} (d : Float) → PairTrial s₀ xs z s k → k < length xs / 2
      → (finite o.0 ≡ true → finite o.1 ≡ true → step s (get_or xs (2 * k) d, get_or xs (2 * k + 1) d) ≡ kept o t)
      → PairTrial s₀ xs (set (set z (2 * k) o.0) (2 * k + 1) o.1) t (k + 1)
  pair_trial_turns {s₀} {xs} {z} {s} {k} {o} {t} d l h keeps =
      let i : ℕ = 2 * k in
      let even : i % 2 ≡ 0 = omega arith in
      let on : 2 * (k + 1) ≡ i + 2 = omega arith in
      let here : i + 1 < length xs = omega arith in
      let room : i < length z = omega (arith, l.same) in
      let next : i + 1 < length z = omega (arith, l.same) in
      let one : take (suc i) (set z i o.0) ≡ take i z ++ (o.0 ∷ []) = take-suc-set z i o.0 room in
      let room₂ : suc i < length (set z i o.0) = lt-length-set z i o.0 (omega arith) in
      let e₁ : i + 1 ≡ suc i = add-one i in
      let e₂ : i + 2 ≡ suc (suc i) = omega arith in
      let two : take (i + 2) (set (set z i o.0) (i + 1) o.1) ≡ (take i z ++ (o.0 ∷ [])) ++ (o.1 ∷ []) = rw (e₁, e₂, take-suc-set (set z i o.0) (suc i) o.1 room₂, one) in
      record {
        within = omega arith;
        same = length-set (set z i o.0) (i + 1) o.1 ∙ length-set z i o.0 ∙ l.same;
        whole = l.whole;
        so_far = λ a.
            let last = both (all_finite (take i z ++ (o.0 ∷ []))) (finite o.1) (sym (all_snoc (take i z ++ (o.0 ∷ [])) o.1) ∙ (rw (on, two) at a)) in
            let each = both (all_finite (take i z)) (finite o.0) (sym (all_snoc (take i z) o.0) ∙ last.0) in
            rw (on, pairs_set z i o even next)
            (going_by_one step silence (keeps each.1 last.1) (rw (pairs_drop xs i d here) at (l.so_far each.0)));
      }

  pub pair_trial_ends : {s₀ : S} {xs z : List Float} {s : S} {k : ℕ} → PairTrial s₀ xs z s k → length xs / 2 ≤ k → all_finite z ≡ true
      → (z ≡ flat (outs step silence s₀ (pairs xs))) × (s ≡ end step s₀ (pairs xs)) × (0 ≡ strikes step s₀ (pairs xs))
  pair_trial_ends {xs = xs} {z} {k = k} l h a =
      let past : length xs ≤ 2 * k = omega (arith, l.whole) in
      let full : length z ≤ 2 * k = omega (arith, l.same) in
      let all = take_all (2 * k) z full in
      let done = going_ends step silence (rw (all, drop_of_length-le xs past) at (l.so_far (rw all a))) in
      let whole : is_even (length z) ≡ true = eq-eqb (length z % 2) 0 (omega (arith, l.same, l.whole)) in
      (rw (← done.0, flat_pairs z whole), done.1, done.2)
