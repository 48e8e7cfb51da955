-- Damage passes: of two streams that differ only at positions a to b - 1, from one history and one phase, every output whose window does not
-- see the damage is the same, and where taps - 1 samples follow it, so are the phase and the history. It holds for any `weigh`. Assumes nothing.
use Prim.Native.Nat.{ℕ, zero, suc, ◌+◌, ◌-◌, ◌*◌, ◌≤◌}
use native.Mathlib.Nat.{zero-add}
use native.Mathlib.Omega.{arith}
use mathlib.Core.Path.{◌≡◌, refl, sym, ap, ◌∙◌}
use mathlib.Core.Logic.{◌⊎◌, inl, inr, ⊎_elim}
use mathlib.Core.List.{List, [], ◌∷◌, ◌++◌}
use lib.ListN.{length, get_or, take, drop, get_or-eq_default}
use lib.Seq.{drop-drop, drop-append-add, take-append-add, take-take}
use Rattle.stage.specs.Counted.{counted_from}
use Rattle.stage.proofs.Counted.{counted_at}
use Rattle.stage.proofs.Filling.{length_counted}
use Rattle.fir.specs.Filter.{Filter, count_of, next_phase, kept, output_at, outputs, filter_outs, filter_end}
use Rattle.fir.specs.Damage.{DifferWithin, Unseen}
use Rattle.fir.proofs.Counting.{lt_or_ge}

-- ---- two lists that are the same before A and from B on

module _ {X : Type 0} where
  -- a part that ends within the first A elements
  early : (A T p : ℕ) (l : List X) → p + T ≤ A → take T (drop p (take A l)) ≡ take T (drop p l)
  early A T zero l h = take-take T A l (omega arith)
  early zero T (suc p) l h = absurd (omega arith)
  early (suc A) T (suc p) [] h = refl
  early (suc A) T (suc p) (x ∷ l) h = early A T p l (omega arith)

  -- what begins at B or behind
  same_rest : (B p : ℕ) (x y : List X) → drop B x ≡ drop B y → B ≤ p → drop p x ≡ drop p y
  same_rest B p x y behind ge =
      let e : B + (p - B) ≡ p = omega arith in
      let late : (l : List X) → drop p l ≡ drop (p - B) (drop B l) = λ l. rw (drop-drop (p - B) B l, e) in
      late x ∙ ap {B = List X} (drop (p - B)) behind ∙ sym (late y)

  -- a part that ends at A or before, or begins at B or behind, is the same in both
  same_part : (A B T p : ℕ) (x y : List X) → take A x ≡ take A y → drop B x ≡ drop B y → (p + T ≤ A) ⊎ (B ≤ p)
      → take T (drop p x) ≡ take T (drop p y)
  same_part A B T p x y before behind (inl le) =
      sym (early A T p x le) ∙ ap {B = List X} (λ l. take T (drop p l)) before ∙ early A T p y le
  same_part A B T p x y before behind (inr ge) =
      ap {B = List X} (take T) (same_rest B p x y behind ge)

-- ---- the two streams behind one history

module _ {X Y : Type 0} (f : Filter X Y) (a b : ℕ) (h x y : List X) (fit : f.taps ≡ length h + 1) (d : DifferWithin a b x y) where
  before_damage : take (length h + a) (h ++ x) ≡ take (length h + a) (h ++ y)
  before_damage = rw (take-append-add h x a, take-append-add h y a, d.before)

  behind_damage : drop (length h + b) (h ++ x) ≡ drop (length h + b) (h ++ y)
  behind_damage = rw (drop-append-add h x b, drop-append-add h y b, d.behind)

  -- a window that does not see the damage is the same, and so is its output
  at_unseen : (p : ℕ) → Unseen f.taps a b p → output_at f (h ++ x) p ≡ output_at f (h ++ y) p
  unfolding output_at
  at_unseen p w =
      ap f.weigh
      (same_part (length h + a) (length h + b) f.taps p (h ++ x) (h ++ y) before_damage behind_damage
      (⊎_elim (λ l. inl (omega arith)) (λ g. inr (omega arith)) w))

  -- the outputs of a run, taken at phase + j x factor; past the last there is none in either
  pub damage_passes : (q j : ℕ) (none : Y) → Unseen f.taps a b (q + j * f.factor)
      → get_or (filter_outs f (record { phase = q; history = h }) x) j none ≡ get_or (filter_outs f (record { phase = q; history = h }) y) j none
  unfolding outputs
  damage_passes q j none w =
      let v : List X → ℕ → Y = λ l i. output_at f (h ++ l) (q + i * f.factor) in
      let n : ℕ = count_of f.factor q (length x) in
      rw (← d.long)
      (⊎_elim
      (λ lt.
      counted_at (v x) 0 n j none lt
      ∙ rw zero-add (at_unseen (q + j * f.factor) w)
      ∙ sym (counted_at (v y) 0 n j none lt))
      (λ ge.
      get_or-eq_default (counted_from (v x) 0 n) none (rw length_counted ge)
      ∙ sym (get_or-eq_default (counted_from (v y) 0 n) none (rw length_counted ge)))
      (lt_or_ge j n))

  -- once taps - 1 samples have come behind the damage, nothing of it is remembered
  pub damage_forgotten : (q : ℕ) → b + (f.taps - 1) ≤ length x
      → filter_end f (record { phase = q; history = h }) x ≡ filter_end f (record { phase = q; history = h }) y
  unfolding kept
  damage_forgotten q far i =
      record {
        phase = next_phase f.factor q (d.long i);
        history = (same_rest (length h + b) (length x) (h ++ x) (h ++ y) behind_damage (omega arith) ∙ ap {B = List X} (λ n. drop n (h ++ y)) d.long) i;
      }
