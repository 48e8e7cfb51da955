-- The number of `refusal_no` is the table's, and a call that goes by it refuses as demand 1 says. Assumes nothing.
use Prim.Native.Nat.{ℕ, zero, suc, ◌≤◌, ◌<◌}
use native.Mathlib.Omega.{arith}
use mathlib.Core.Path.{◌≡◌, refl}
use mathlib.Core.Bool.{Bool, true, false, not, cond, true≢false, false≢true}
use mathlib.Core.Logic.{◌↔◌}
use mathlib.Core.List.{List, [], ◌∷◌, ◌++◌}
use Rattle.stage.specs.Refusal.{NONE, SETTING, refusal_no, unless}
use Rattle.promises.specs.Table.{Met, ByTheTable, demands, Refuses}

-- ---- demands in a row, numbered from k on

-- the number of the first that is broken: `refusal_no` is this from 1 on
abbrev first : ℕ → List Bool → ℕ
first k [] = NONE
first k (d ∷ ds) = cond (not d) k (first (suc k) ds)

-- the number of the demand that comes after these
abbrev behind : ℕ → List Bool → ℕ
behind k [] = k
behind k (d ∷ ds) = behind (suc k) ds

behind_least : (k : ℕ) (ds : List Bool) → k ≤ behind k ds
behind_least k [] = omega arith
behind_least k (d ∷ ds) = omega (arith, behind_least (suc k) ds)

-- no number below k is told, save that of none
none_below : (j k : ℕ) (ds : List Bool) → 0 < j → j < k → first k ds ≡ j → ⊥
none_below j k [] p q e = omega arith
none_below j k (true ∷ ds) p q e = none_below j (suc k) ds p (omega arith) e
none_below j k (false ∷ ds) p q e = omega arith

both : {A B : Type 0} → A → B → A ↔ B
both a b = (λ _. b, λ _. a)

neither : {A B : Type 0} → (A → ⊥) → (B → ⊥) → A ↔ B
neither f g = (λ a. absurd (f a), λ b. absurd (g b))

row : (k : ℕ) (before : List Bool) (own : Bool) (after : List Bool) → 0 < k → (first k (before ++ own ∷ after) ≡ behind k before) ↔ Met before × (own ≡ false)
row k [] true after p = neither (λ e. none_below k (suc k) after p (omega arith) e) (λ h. true≢false h.1)
row k [] false after p = both refl (tt, refl)
row k (true ∷ before) own after p = let r = row (suc k) before own after (omega arith) in (λ e. let h = r.0 e in ((refl, h.0), h.1), λ h. r.1 (h.0.1, h.1))
row k (false ∷ before) own after p = neither (λ e. let l = behind_least (suc k) before in omega arith) (λ h. false≢true h.0.0)

no_row : (k : ℕ) (ds : List Bool) → 0 < k → (first k ds ≡ NONE) ↔ Met ds
no_row k [] p = both refl tt
no_row k (true ∷ ds) p = let r = no_row (suc k) ds (omega arith) in (λ e. (refl, r.0 e), λ h. r.1 h.1)
no_row k (false ∷ ds) p = neither (λ e. omega arith) (λ h. false≢true h.0)

by_the_table : (s t m n r : Bool) → ByTheTable (demands s t m n r) (refusal_no s t m n r)
by_the_table s t m n r =
    record {
      setting = row 1 [] s (t ∷ m ∷ n ∷ r ∷ []) (omega arith);
      state = row 1 (s ∷ []) t (m ∷ n ∷ r ∷ []) (omega arith);
      limit = row 1 (s ∷ t ∷ []) m (n ∷ r ∷ []) (omega arith);
      length = row 1 (s ∷ t ∷ m ∷ []) n (r ∷ []) (omega arith);
      room = row 1 (s ∷ t ∷ m ∷ n ∷ []) r [] (omega arith);
      none = no_row 1 (s ∷ t ∷ m ∷ n ∷ r ∷ []) (omega arith);
    }

-- ---- a call whose answer goes by its number: under each but 0 it is what is refused

module _ {A : Type 0} {number_in : A → ℕ} {refused : ℕ → A} {s t m n r : Bool} where
  pub refuses_at : (gives : ℕ → A) → ((k : ℕ) → number_in (gives k) ≡ k) → ((k : ℕ) → gives (suc k) ≡ refused (suc k))
      → Refuses (demands s t m n r) number_in (gives (refusal_no s t m n r)) refused
  refuses_at gives told stays = go (refusal_no s t m n r) (by_the_table s t m n r)
    where
      go : (k : ℕ) → ByTheTable (demands s t m n r) k → Refuses (demands s t m n r) number_in (gives k) refused
      go zero d = record { by_the_table = rw (told zero) d; unchanged = λ h. absurd (h (told zero)) }
      go (suc k) d = record { by_the_table = rw (told (suc k)) d; unchanged = λ h. rw (told (suc k)) (stays k) }

  -- `run` under 0
  pub refuses : (run : A) → number_in run ≡ NONE → ((k : ℕ) → number_in (refused k) ≡ k)
      → Refuses (demands s t m n r) number_in (unless (refusal_no s t m n r) run (refused (refusal_no s t m n r))) refused
  refuses run none tells = refuses_at (λ k. unless k run (refused k)) told (λ k. refl)
    where
      told : (k : ℕ) → number_in (unless k run (refused k)) ≡ k
      told zero = none
      told (suc k) = tells (suc k)

-- a making call whose only demand is on its settings
pub refuses_setting : {A : Type 0} {number_in : A → ℕ} {refused : ℕ → A} {s : Bool} (run : A) → number_in run ≡ NONE → ((k : ℕ) → number_in (refused k) ≡ k)
    → Refuses (demands s true true true true) number_in (cond s run (refused SETTING)) refused
refuses_setting {s = true} run none tells = refuses {s = true} run none tells
refuses_setting {s = false} run none tells = refuses {s = false} run none tells
