-- A call's run worked part by part, each from the state that the one before gave, whatever the layout; and a slice of which a part is written. Assumes nothing.
use Prim.Native.Nat.{ℕ, ◌+◌, ◌-◌, ◌≤◌}
use native.Mathlib.Nat.{zero-add, add-zero, add_assoc}
use native.Mathlib.Omega.{arith}
use mathlib.Core.Path.{◌≡◌, refl, sym, ap, ◌∙◌}
use mathlib.Core.Bool.{true}
use mathlib.Core.List.{List, [], ◌∷◌, ◌++◌, append_assoc, append-nil}
use lib.ListN.{length, take, drop, length-append, take-append-drop, length-drop, drop_of_length-le}
use lib.Seq.{length-take-le, drop-drop, take_at, drop_at, take_all}
use Rattle.stage.specs.Run.{Answer, struck, kept, after, tick, strikes}
use Rattle.stage.specs.Lent.{Lent, mono, interleaved}
use Rattle.stage.specs.Stage.{Stage}
use Rattle.stage.specs.Call.{Given, gave, ran}
use Rattle.stage.specs.Calls.{both}
use Rattle.stage.proofs.Layouts.{length_pairs}
use Rattle.stage.proofs.Lents.{Lawful, mono_lawful, interleaved_lawful}
use Rattle.stage.proofs.Calls.{ran_join}

-- no more are struck than there are
tick_le : {B S : Type 0} (a : Answer B S) → tick a ≤ 1
tick_le struck = omega arith
tick_le (kept o t) = omega arith

pub strikes_le : {A B S : Type 0} (step : S → A → Answer B S) (s : S) (xs : List A) → strikes step s xs ≤ length xs
strikes_le step s [] = omega arith
strikes_le step s (x ∷ xs) = omega (arith, tick_le (step s x), strikes_le step (after s (step s x)) xs)

module _ {A S X : Type 0} (g : Stage A A S) (l : Lent A X) where
  -- Of the run over x₀ from s₀, `done` stands in the parts that are worked and `rest` is to go, from the state s with n struck
  abbrev pub Parted : S → X → X → X → S → ℕ → Type 0
  Parted s₀ x₀ done rest s n = both l (gave s n done) (ran g l s rest) ≡ ran g l s₀ x₀

  module _ (laws : Lawful l) (assoc : (x y z : X) → l.join (l.join x y) z ≡ l.join x (l.join y z)) where
    -- it goes on by a part b, whose own run gives r
    pub parted_turns : (s₀ : S) (x₀ done b rest : X) (s : S) (n : ℕ) (r : Given S X) → l.whole b ≡ true → Parted s₀ x₀ done (l.join b rest) s n
        → r ≡ ran g l s b → Parted s₀ x₀ (l.join done r.left) rest r.state (n + r.struck)
    parted_turns s₀ x₀ done b rest s n r w p e =
        let last = ran g l r.state rest in
        let regroup : both l (gave r.state (n + r.struck) (l.join done r.left)) last ≡ both l (gave s n done) (both l r last) =
        rw (add_assoc n r.struck last.struck, assoc done r.left last.left) in
        regroup
        ∙ ap (λ (q : Given S X). both l (gave s n done) (both l q (ran g l q.state rest))) e
        ∙ ap (λ (q : Given S X). both l (gave s n done) q) (sym (ran_join g l laws s b rest w))
        ∙ p

-- ---- a slice whose places from i to e are written with ys
module _ {X : Type 0} (xs ys : List X) (i e : ℕ) (h : i ≤ e) (m : e ≤ length xs) (n : length ys ≡ e - i) where
  abbrev put : List X
  put = take i xs ++ (ys ++ drop (e - i) (drop i xs))

  past : drop (e - i) (drop i xs) ≡ drop e xs
  past = let k : i + (e - i) ≡ e = omega arith in drop-drop (e - i) i xs ∙ ap {B = List X} (λ (j : ℕ). drop j xs) k

  regrouped : put ≡ (take i xs ++ ys) ++ drop e xs
  regrouped = sym (append_assoc (take i xs) ys _) ∙ ap {B = List X} (λ (r : List X). (take i xs ++ ys) ++ r) past

  front : length (take i xs ++ ys) ≡ e
  front = let a = length-append (take i xs) ys in let b : length (take i xs) ≡ i = length-take-le i xs (omega arith) in omega arith

  pub put_taken : take e put ≡ take i xs ++ ys
  put_taken = rw regrouped (take_at (take i xs ++ ys) (drop e xs) e front)

  pub put_left : drop e put ≡ drop e xs
  put_left = rw regrouped (drop_at (take i xs ++ ys) (drop e xs) e front)

  pub put_length : length put ≡ length xs
  put_length = rw (regrouped, length-append, front, length-drop) (omega arith)

-- what lies from i on is what lies from i to e, and the rest
pub cut_part : {X : Type 0} (xs : List X) (i e : ℕ) → i ≤ e → drop i xs ≡ take (e - i) (drop i xs) ++ drop e xs
cut_part {X} xs i e h =
    let k : i + (e - i) ≡ e = omega arith in
    sym (take-append-drop (e - i) (drop i xs))
    ∙ ap {B = List X} (λ (r : List X). take (e - i) (drop i xs) ++ r) (drop-drop (e - i) i xs ∙ ap {B = List X} (λ (j : ℕ). drop j xs) k)

-- ---- the loop over one slice, whose samples lie in a row
module _ {A F S : Type 0} (g : Stage A A S) (l : Lent A (List F)) where
  pub record InRow : Type 0 where
    pub lawful : Lawful l
    pub joined : (x y : List F) → l.join x y ≡ x ++ y
    pub count : (x : List F) → length (l.samples x) ≤ length x
    pub none : (s : S) → ran g l s [] ≡ gave s 0 []

  -- from the state s₀ and the slice xs₀, at the place k with n struck
  pub record PartLoop (s₀ : S) (xs₀ xs : List F) (s : S) (n k : ℕ) : Type 0 where
    pub within : k ≤ length xs
    pub same : length xs ≡ length xs₀
    pub few : n ≤ k
    pub parted : Parted g l s₀ xs₀ (take k xs) (drop k xs) s n

  module _ (row : InRow) where
    pub part_begins : (s : S) (xs : List F) → PartLoop s xs xs s 0 0
    part_begins s xs = record { within = omega arith; same = refl; few = omega arith; parted = rw (row.joined, zero-add) }

    -- a part strikes no more than it has
    pub part_few : (s : S) (b : List F) (r : Given S (List F)) → r ≡ ran g l s b → r.struck ≤ length b
    part_few s b r e = rw (ap (λ (q : Given S (List F)). q.struck) e) (omega (arith, strikes_le g.step s (l.samples b), row.count b))

    -- a turn by the part to e, whose run gives r
    pub part_turns : {s₀ : S} {xs₀ xs : List F} {s : S} {n k : ℕ} (e : ℕ) (r : Given S (List F)) → PartLoop s₀ xs₀ xs s n k → k ≤ e → e ≤ length xs
        → l.whole (take (e - k) (drop k xs)) ≡ true → r ≡ ran g l s (take (e - k) (drop k xs)) → length r.left ≡ e - k
        → PartLoop s₀ xs₀ (take k xs ++ (r.left ++ drop (e - k) (drop k xs))) r.state (n + r.struck) e
    part_turns {s₀} {xs₀} {xs} {s} {n} {k} e r p h m w is full =
        let b = take (e - k) (drop k xs) in
        let size : length b ≡ e - k = length-take-le (e - k) (drop k xs) (rw length-drop (omega arith)) in
        let long = put_length xs r.left k e h m full in
        let few = part_few s b r is in
        let assoc : (x y z : List F) → l.join (l.join x y) z ≡ l.join x (l.join y z) = λ x y z. simp (row.joined, append_assoc) in
        let split : Parted g l s₀ xs₀ (take k xs) (l.join b (drop e xs)) s n = rw (row.joined b (drop e xs), ← cut_part xs k e h) p.parted in
        record {
          within = rw long m;
          same = long ∙ p.same;
          few = omega arith;
          parted =
              rw (put_taken xs r.left k e h m full, put_left xs r.left k e h m full, ← row.joined (take k xs) r.left)
              (parted_turns g l row.lawful assoc s₀ xs₀ (take k xs) b (drop e xs) s n r w split is);
        }

    pub part_ends : {s₀ : S} {xs₀ xs : List F} {s : S} {n k : ℕ} → PartLoop s₀ xs₀ xs s n k → length xs ≤ k → gave s n xs ≡ ran g l s₀ xs₀
    part_ends {s₀} {xs₀} {xs} {s} {n} {k} p h =
        let nothing : both l (gave s n xs) (gave s 0 []) ≡ gave s n xs = rw (row.joined xs [], append-nil, add-zero) in
        sym nothing
        ∙ ap (λ (q : Given S (List F)). both l (gave s n xs) q) (sym (row.none s))
        ∙ (rw (take_all k xs h, drop_of_length-le xs h) at p.parted)

module _ {F S : Type 0} where
  pub mono_row : (g : Stage F F S) → InRow g mono
  mono_row g = record { lawful = mono_lawful; joined = λ x y. refl; count = λ x. omega arith; none = λ s. refl }

  pub interleaved_row : (g : Stage (F × F) (F × F) S) → InRow g interleaved
  interleaved_row g = record { lawful = interleaved_lawful; joined = λ x y. refl; count = λ x. omega (arith, length_pairs x); none = λ s. refl }
