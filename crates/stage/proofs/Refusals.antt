-- Laws of the five numbers: what number 0 says of the demands, and what a call gives by its number, or by what its demands come to. Assumes nothing.
use Prim.Native.Nat.{ℕ, zero, suc}
use native.Mathlib.Omega.{arith}
use mathlib.Core.Path.{◌≡◌, refl, sym, ap, ◌∙◌}
use mathlib.Core.Bool.{Bool, true, false}
use Rattle.stage.specs.Refusal.{NONE, refusal_no, unless, answered}
use Rattle.stage.specs.Numbers.{number}
use Rattle.stage.specs.declared.numbers.Refusal.{Refusal}
use Rattle.stage.specs.declared.numbers.Refusal.TheVariants as refusal

-- each demand is met
pub record Met (s t m n r : Bool) : Type 0 where
  pub setting : s ≡ true
  pub state : t ≡ true
  pub limit : m ≡ true
  pub length : n ≡ true
  pub room : r ≡ true

-- nothing is refused exactly where each demand is met
pub met : (s t m n r : Bool) → refusal_no s t m n r ≡ NONE → Met s t m n r
met true true true true true e = record { setting = refl; state = refl; limit = refl; length = refl; room = refl }
met true true true true false e = absurd (omega arith)
met true true true false r e = absurd (omega arith)
met true true false n r e = absurd (omega arith)
met true false m n r e = absurd (omega arith)
met false t m n r e = absurd (omega arith)

pub met_is_none : {s t m n r : Bool} → Met s t m n r → refusal_no s t m n r ≡ NONE
met_is_none d = rw (d.setting, d.state, d.limit, d.length, d.room)

-- a call that is refused gives what a refusal gives
pub refused_gives : {X : Type 0} (n : ℕ) (run refused : X) → (n ≡ NONE → ⊥) → refused ≡ unless n run refused
refused_gives zero run refused h = absurd (h refl)
refused_gives (suc n) run refused h = refl

-- and one that is not, what its run gives
pub run_gives : {X : Type 0} (n : ℕ) (run refused : X) → n ≡ NONE → run ≡ unless n run refused
run_gives zero run refused h = refl
run_gives (suc n) run refused h = absurd (omega arith)

-- a call that answers its number when it is refused, and answered 0, was not
pub answers_none : {X : Type 0} (number_in : X → ℕ) (n : ℕ) (run refused : X) → number_in refused ≡ n → number_in (unless n run refused) ≡ NONE → n ≡ NONE
answers_none number_in zero run refused e ok = refl
answers_none number_in (suc n) run refused e ok = sym e ∙ ok

-- the same of a call that answers its number n beside what it leaves
module _ {X : Type 0} (n number : ℕ) (run was : X) (e : n ≡ number) where
  pub run_answers : (left : X) → left ≡ run → n ≡ NONE → (n, left) ≡ answered number run was
  run_answers left h z = rw (e, h) (ap {B = ℕ × X} (λ x. (number, x)) (run_gives number run was (sym e ∙ z)))

  pub refused_answers : (n ≡ NONE → ⊥) → (n, was) ≡ answered number run was
  refused_answers h = rw e (ap {B = ℕ × X} (λ x. (number, x)) (refused_gives number run was (λ z. h (e ∙ z))))

-- ---- `if let Err(refusal) = demands(..)`: in the branch the call's number is that of this refusal, and after it NONE

-- which is never NONE
pub number_ne_none : (r : Refusal) → number r ≡ NONE → ⊥
number_ne_none refusal.Setting e = absurd (omega arith)
number_ne_none refusal.State e = absurd (omega arith)
number_ne_none refusal.Limit e = absurd (omega arith)
number_ne_none refusal.Length e = absurd (omega arith)
number_ne_none refusal.Room e = absurd (omega arith)

module _ {X : Type 0} (run was : X) {n : ℕ} where
  pub err_gives : (r : Refusal) → number r ≡ n → was ≡ unless n run was
  err_gives r e = refused_gives n run was (λ z. number_ne_none r (e ∙ z))

  pub ok_gives : NONE ≡ n → {left : X} → left ≡ run → left ≡ unless n run was
  ok_gives e h = h ∙ run_gives n run was (sym e)

  pub err_answers : (r : Refusal) → number r ≡ n → (number r, was) ≡ answered n run was
  err_answers r e = refused_answers (number r) n run was e (number_ne_none r)

  pub ok_answers : NONE ≡ n → {left : X} → left ≡ run → (NONE, left) ≡ answered n run was
  ok_answers e {left} h = run_answers NONE n run was e left h refl
