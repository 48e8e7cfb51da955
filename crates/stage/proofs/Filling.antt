-- A slice that a loop fills from its start with a list that is known beforehand: what the loop knows, the slice at its end, and what comes next of the usual lists. Assumes nothing.
use Prim.Native.Nat.{ℕ, zero, suc, ◌+◌, ◌-◌, ◌≤◌, ◌<◌}
use native.Mathlib.Numerals.{add-one}
use native.Mathlib.Omega.{arith}
use mathlib.Core.Path.{◌≡◌, refl, sym, ap, ◌∙◌}
use mathlib.Core.List.{List, [], ◌∷◌, ◌++◌, map, append_assoc, append-nil}
use lib.ListN.{length, get_or, take, drop, set, length-set, length-append}
use lib.Seq.{drop-cons, take-suc-set, take_all, length-take-le}
use Rattle.stage.specs.Counted.{counted_from}

module _ {X : Type 0} where
  -- the first i places hold the start of `goal`, and `rest` is what is to come
  pub record Filling (goal : List X) (i : ℕ) (rest out : List X) : Type 0 where
    pub within : i ≤ length out
    pub same : length out ≡ length goal
    pub so_far : take i out ++ rest ≡ goal

  pub filling_begins : (goal out : List X) → length out ≡ length goal → Filling goal 0 goal out
  filling_begins goal out h = record { within = omega arith; same = h; so_far = refl }

  left_over : {goal : List X} {i : ℕ} {rest out : List X} → Filling goal i rest out → i + length rest ≡ length out
  left_over {goal} {i} {rest} {out} f =
      let e : length (take i out) + length rest ≡ length goal = sym (length-append (take i out) rest) ∙ ap length f.so_far in
      let t : length (take i out) ≡ i = length-take-le i out f.within in
      let s = f.same in
      omega arith

  pub filling_turns : {goal : List X} {i : ℕ} {v : X} {rest out : List X} → Filling goal i (v ∷ rest) out → Filling goal (i + 1) rest (set out i v)
  filling_turns {goal} {i} {v} {rest} {out} f =
      let h : i < length out = omega (arith, left_over f) in
      record {
        within = rw length-set (omega arith);
        same = length-set out i v ∙ f.same;
        so_far = rw (add-one, take-suc-set out i v h, append_assoc) f.so_far;
      }

  pub filling_ends : {goal : List X} {i : ℕ} {out : List X} → Filling goal i [] out → out ≡ goal
  filling_ends {goal} {i} {out} f =
      let h : length out ≤ i = omega (arith, left_over f) in
      sym (take_all i out h) ∙ sym (append-nil (take i out)) ∙ f.so_far

-- ---- what comes next: of a list that is mapped, and of one that is worked out place by place
pub next_mapped : {A B : Type 0} (f : A → B) (xs : List A) (i : ℕ) (d : A) → i < length xs → map f (drop i xs) ≡ f (get_or xs i d) ∷ map f (drop (i + 1) xs)
next_mapped f xs i d h = rw (add-one, drop-cons xs i d h)

pub length_counted : {X : Type 0} (f : ℕ → X) (i n : ℕ) → length (counted_from f i n) ≡ n
length_counted f i zero = refl
length_counted f i (suc n) = ap suc (length_counted f (suc i) n)

pub next_counted : {X : Type 0} (f : ℕ → X) (i n : ℕ) → i < n → counted_from f i (n - i) ≡ f i ∷ counted_from f (i + 1) (n - (i + 1))
next_counted f i n h =
    let e : n - i ≡ suc (n - (i + 1)) = omega arith in
    rw (e, add-one)
