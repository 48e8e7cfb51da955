-- A rounded sum does not depend on the order of its operands, in either format.
-- The Rust's `process_split` adds the new sample's part first and its other calls the old mean's: both are the one blend. Assumes nothing.
use Prim.Native.Nat.{ℕ, ◌-◌, ◌*◌, ◌<◌, ◌≤◌}
use native.Mathlib.Nat.{add_comm, mul_comm}
use native.Mathlib.Omega.{arith}
use mathlib.Core.Path.{◌≡◌, refl, sym, ap, ◌∙◌}
use mathlib.Core.Bool.{Bool, true, false, cond}
use lib.Dec.{ltb}
use borrow.Author.Tests.{ltb-true, ltb-false}
use lib.Ieee.{Float, Format, nan, inf, fin, up, down, add, sum, round}

-- -a + b is b + -a: p and q say which of a and b is the greater
unlike_signs : (f : Format) (a b c : ℕ) (p q : Bool) → ltb a b ≡ p → ltb b a ≡ q
    → cond p (round f false (b - a) c) (round f q (a - b) c) ≡ cond q (round f true (a - b) c) (round f false (b - a) c)
unlike_signs f a b c true true hp hq =
    let l : a < b = ltb-true a b hp in
    let m : b < a = ltb-true b a hq in
    absurd (omega arith)
unlike_signs f a b c true false hp hq = refl
unlike_signs f a b c false true hp hq = refl
unlike_signs f a b c false false hp hq =
    let l : b ≤ a = ltb-false a b hp in
    let m : a ≤ b = ltb-false b a hq in
    let e : a - b ≡ b - a = omega arith in
    ap (λ (n : ℕ). round f false n c) e

sum_comm : (f : Format) (s t : Bool) (a b c : ℕ) → sum f s a t b c ≡ sum f t b s a c
unfolding sum
sum_comm f true true a b c = ap (λ (n : ℕ). round f true n c) (add_comm a b)
sum_comm f false false a b c = ap (λ (n : ℕ). round f false n c) (add_comm a b)
sum_comm f true false a b c = unlike_signs f a b c (ltb a b) (ltb b a) refl refl
sum_comm f false true a b c = sym (unlike_signs f b a c (ltb b a) (ltb a b) refl refl)

pub commute : (f : Format) (x y : Float) → add f x y ≡ add f y x
unfolding add
commute f nan nan = refl
commute f nan (inf t) = refl
commute f nan (fin t n d) = refl
commute f (inf s) nan = refl
commute f (inf true) (inf true) = refl
commute f (inf true) (inf false) = refl
commute f (inf false) (inf true) = refl
commute f (inf false) (inf false) = refl
commute f (inf s) (fin t n d) = refl
commute f (fin s m e) nan = refl
commute f (fin s m e) (inf t) = refl
commute f (fin s m e) (fin t n d) =
    ap (λ (k : ℕ). sum f s (m * up e * down d) t (n * up d * down e) k) (mul_comm (down e) (down d)) ∙ sum_comm f s t _ _ _
