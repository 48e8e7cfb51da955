-- The loop of a stage over mono samples in place: those before i are written, those from i on are to go. Assumes nothing.
use Prim.Native.Nat.{ℕ, suc, ◌+◌, ◌≤◌, ◌<◌}
use native.Mathlib.Numerals.{add-one}
use native.Mathlib.Omega.{arith}
use mathlib.Core.Path.{◌≡◌, refl, ◌∙◌}
use mathlib.Core.List.{List}
use lib.ListN.{length, get_or, take, drop, set, drop_of_length-le, length-set}
use lib.Seq.{drop-cons, take-suc-set, drop-set-lt, take_all}
use Rattle.stage.specs.Run.{Answer, out_of, after, outs, end, strikes}
use Rattle.stage.proofs.Going.{Going, tally, tally_le, going_begins, going_by_one, going_ends}

module _ {X S : Type 0} (step : S → X → Answer X S) (silence : X) where
  -- from the state s₀ and the slice xs₀, at the place i with n struck
  pub record MonoLoop (s₀ : S) (xs₀ xs : List X) (s : S) (n i : ℕ) : Type 0 where
    pub within : i ≤ length xs
    pub same : length xs ≡ length xs₀
    pub few : n ≤ i
    pub going : Going step silence s₀ xs₀ (take i xs) (drop i xs) s n

  pub mono_begins : (s : S) (xs : List X) → MonoLoop s xs xs s 0 0
  mono_begins s xs = record { within = omega arith; same = refl; few = omega arith; going = going_begins step silence s xs }

  -- a turn whose step answers a; d is what the code's reads give past the end, nan for a slice of floats
  pub mono_turns : {s₀ : S} {xs₀ xs : List X} {s : S} {n i : ℕ} {a : Answer X S} (d : X) → MonoLoop s₀ xs₀ xs s n i → i < length xs
      → step s (get_or xs i d) ≡ a → MonoLoop s₀ xs₀ (set xs i (out_of silence a)) (after s a) (tally n a) (i + 1)
  mono_turns {xs = xs} {i = i} {a} d l h e =
      let more : i < suc i = omega arith in
      record {
        within = rw length-set (omega arith);
        same = length-set xs i (out_of silence a) ∙ l.same;
        few = tally_le a l.few;
        going = rw (add-one, take-suc-set, drop-set-lt) (going_by_one step silence e (rw (drop-cons xs i d h) at l.going));
      }

  pub mono_ends : {s₀ : S} {xs₀ xs : List X} {s : S} {n i : ℕ} → MonoLoop s₀ xs₀ xs s n i → length xs ≤ i
      → (xs ≡ outs step silence s₀ xs₀) × (s ≡ end step s₀ xs₀) × (n ≡ strikes step s₀ xs₀)
  mono_ends {xs = xs} {i = i} l h = going_ends step silence (rw (take_all i xs h, drop_of_length-le xs h) at l.going)
