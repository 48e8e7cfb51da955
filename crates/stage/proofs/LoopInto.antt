-- The loop of a stage from interleaved pairs in one slice to one output each in another: the outputs of the first k are written, as far as there is room. Assumes nothing.
use Prim.Native.Nat.{ℕ, ◌+◌, ◌*◌, ◌/◌, ◌≤◌, ◌<◌, min}
use native.Mathlib.Numerals.{add-one}
use native.Mathlib.Omega.{arith}
use mathlib.Core.Path.{◌≡◌}
use mathlib.Core.List.{List, ◌∷◌}
use lib.ListN.{length, get_or, take, drop, set, length-take, drop_of_length-le}
use lib.Seq.{take-suc-set}
use Rattle.stage.specs.Run.{Answer, out_of, after, outs, end, strikes}
use Rattle.stage.specs.Layout.{pairs, over}
use Rattle.stage.proofs.Layouts.{length_pairs, pair_next}
use Rattle.stage.proofs.Going.{Going, tally, tally_le, going_begins, going_by_one, going_ends}
use Rattle.stage.proofs.Written.{Written, written_begins, written_set, written_over}

module _ {X Y S : Type 0} (step : S → X × X → Answer Y S) (silence : Y) where
  -- from the state s₀, the input xs and the output out₀, after k pairs with n struck
  pub record IntoLoop (s₀ : S) (xs : List X) (out₀ out : List Y) (s : S) (n k : ℕ) : Type 0 where
    pub few : n ≤ k
    pub written : Written out₀ k out
    pub going : Going step silence s₀ (take (length out₀) (pairs xs)) (take k out) (drop k (take (length out₀) (pairs xs))) s n

  pub into_begins : (s : S) (xs : List X) (out : List Y) → IntoLoop s xs out out s 0 0
  into_begins s xs out = record { few = omega arith; written = written_begins out; going = going_begins step silence s (take (length out) (pairs xs)) }

  -- a turn whose step answers a; d is what the code's reads give past the end, nan for a slice of floats
  pub into_turns : {s₀ : S} {xs : List X} {out₀ out : List Y} {s : S} {n k : ℕ} {a : Answer Y S} (d : X)
      → IntoLoop s₀ xs out₀ out s n k → k < length xs / 2 → k < length out → step s (get_or xs (2 * k) d, get_or xs (2 * k + 1) d) ≡ a
      → IntoLoop s₀ xs out₀ (set out k (out_of silence a)) (after s a) (tally n a) (k + 1)
  into_turns {xs = xs} {out₀} {out} {k = k} {a} d l h room e =
      let same : length out ≡ length out₀ = l.written.same in
      let next : drop k (take (length out₀) (pairs xs)) ≡ (get_or xs (2 * k) d, get_or xs (2 * k + 1) d) ∷ drop (k + 1) (take (length out₀) (pairs xs)) =
      pair_next xs (length out₀) k d h (omega arith) in
      record {
        few = tally_le a l.few;
        written = written_set (out_of silence a) l.written;
        going = rw (add-one k, take-suc-set) (rw add-one at (going_by_one step silence e (rw next at l.going)));
      }

  pub into_ends : {s₀ : S} {xs : List X} {out₀ out : List Y} {s : S} {n k : ℕ} → IntoLoop s₀ xs out₀ out s n k → k ≡ min (length xs / 2) (length out)
      → let ps = take (length out₀) (pairs xs) in
      (out ≡ over (outs step silence s₀ ps) out₀) × (s ≡ end step s₀ ps) × (n ≡ strikes step s₀ ps)
  into_ends {xs = xs} {out₀} {out} {k = k} l h =
      let same : length out ≡ length out₀ = l.written.same in
      let past : length (take (length out₀) (pairs xs)) ≤ k = rw (length-take, length_pairs) (omega arith) in
      let done = going_ends step silence (rw (drop_of_length-le (take (length out₀) (pairs xs)) past) at l.going) in
      (written_over _ l.written (omega arith) done.0, done.1, done.2)
