-- No second answer meets the contract of the demands on a call, of the rule over either width, and of the runs of any feedback stage. Assumes nothing.
use Prim.Native.Nat.{ℕ, zero, suc}
use mathlib.Core.Path.{◌≡◌, refl, sym, ap, ◌∙◌}
use Rattle.std.specs.Prelude.{Result, Ok, Err}
use Rattle.stage.proofs as stage
use Rattle.stage.specs.contracts as stage-says
use Rattle.stage.specs.Numbers.{number_of}
use Rattle.stage.specs.declared.numbers.Refusal.{Refusal}
use Rattle.stage.specs.declared.numbers.Refusal.TheVariants as refusal
use Rattle.promises.specs.Contract.{NoSecond}
use Rattle.promises.proofs.OneAnswer.{one_answer}

-- ---- the demands on a call, by their number

told_by : ℕ → Result Unit Refusal
told_by zero = Ok tt
told_by (suc zero) = Err refusal.Setting
told_by (suc (suc zero)) = Err refusal.State
told_by (suc (suc (suc zero))) = Err refusal.Limit
told_by (suc (suc (suc (suc zero)))) = Err refusal.Length
told_by (suc (suc (suc (suc (suc n))))) = Err refusal.Room

by_number : (r : Result Unit Refusal) → told_by (number_of r) ≡ r
unfolding told_by
by_number (Ok u) = refl
by_number (Err refusal.Setting) = refl
by_number (Err refusal.State) = refl
by_number (Err refusal.Limit) = refl
by_number (Err refusal.Length) = refl
by_number (Err refusal.Room) = refl

pub demands : NoSecond stage-says.demands.ended stage.demands.Reads.Learnt
demands h x y a b = ap (λ r. (r, (tt, (tt, (tt, (tt, (tt, tt))))))) (sym (by_number x.0) ∙ ap told_by (a ∙ sym b) ∙ by_number y.0)

pub number_of_refusal : NoSecond stage-says.numbers.U32FromRefusal.from.ended stage.numbers.U32FromRefusal.from.Reads.Learnt
number_of_refusal h x y = one_answer (λ r. (r, (tt, tt)))

-- ---- of a float of any width

pub positive : (g l copy real d clone e : _) → NoSecond (stage-says.positive.ended g real d clone e) (stage.positive.Reads.Learnt g l copy real d clone e)
positive g l copy real d clone e h x y = one_answer (λ r. (r, (tt, tt)))

-- ---- the runs of any stage

three : {A B C D : Type 0} (f : A → B → C → D) {a a' : A} {b b' : B} {c c' : C} → a ≡ a' → b ≡ b' → c ≡ c' → f a b c ≡ f a' b' c'
three f {a' = a'} {b = b} {b' = b'} {c = c} p q r = ap (λ x. f x b c) p ∙ ap (λ y. f a' y c) q ∙ ap (f a' b') r

pub run_mono : (g l copy feedback d clone e : _) → NoSecond (stage-says.run_mono.ended g feedback d clone e) (stage.run_mono.Reads.Learnt g l copy feedback d clone e)
run_mono g l copy feedback d clone e h x y a b =
    three (λ t n xs. (record { state = t; struck = n }, (tt, (xs, tt)))) (a.1.0 ∙ sym b.1.0) (a.1.1 ∙ sym b.1.1) (a.0 ∙ sym b.0)

pub run_pairs : (g l copy feedback d clone e : _) → NoSecond (stage-says.run_pairs.ended g feedback d clone e) (stage.run_pairs.Reads.Learnt g l copy feedback d clone e)
run_pairs g l copy feedback d clone e h x y a b =
    three (λ t n xs. (record { state = t; struck = n }, (tt, (xs, tt)))) (a.1.0 ∙ sym b.1.0) (a.1.1 ∙ sym b.1.1) (a.0 ∙ sym b.0)

pub run_into : (g l copy feedback d clone e : _) → NoSecond (stage-says.run_into.ended g feedback d clone e) (stage.run_into.Reads.Learnt g l copy feedback d clone e)
run_into g l copy feedback d clone e h x y a b =
    three (λ t n xs. (record { state = t; struck = n }, (tt, (tt, (xs, tt))))) (a.1.0 ∙ sym b.1.0) (a.1.1 ∙ sym b.1.1) (a.0 ∙ sym b.0)
