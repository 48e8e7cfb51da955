-- What a NaN or an infinity does to an operation, in either format: the result is not finite either. Assumes nothing.
use mathlib.Core.Path.{◌≡◌, refl, sym, ap, ◌∙◌}
use mathlib.Core.Bool.{Bool, true, false, cond, ◌&&◌, and-false, beq, true≢false}
use lib.Dec.{eqb}
use lib.Ieee.{Float, Format, nan, inf, fin, add, sub, mul, neg}
use lib.Ieee.Scale.{finite}
use Rattle.stage.specs.Floats.{both_finite}
use Rattle.stage.proofs.Commute.{commute}

-- a NaN or an infinity, whichever the test says
either : (b s : Bool) → finite (cond b nan (inf s)) ≡ false
either true s = refl
either false s = refl

both : (b s : Bool) → finite (cond b (inf s) nan) ≡ false
both true s = refl
both false s = refl

pub mul_not_finite : (f : Format) (x y : Float) → finite x ≡ false → finite (mul f x y) ≡ false
unfolding mul
mul_not_finite f nan y h = refl
mul_not_finite f (inf s) nan h = refl
mul_not_finite f (inf s) (inf t) h = refl
mul_not_finite f (inf s) (fin t n d) h = either (eqb n 0) _
mul_not_finite f (fin s m e) y h = absurd (true≢false h)

-- the same of the second operand
pub mul_not_finite_right : (f : Format) (x y : Float) → finite y ≡ false → finite (mul f x y) ≡ false
unfolding mul
mul_not_finite_right f nan y h = refl
mul_not_finite_right f (inf s) y h = mul_not_finite f (inf s) y refl
mul_not_finite_right f (fin s m e) nan h = refl
mul_not_finite_right f (fin s m e) (inf t) h = either (eqb m 0) _
mul_not_finite_right f (fin s m e) (fin t n d) h = absurd (true≢false h)

pub add_not_finite : (f : Format) (x y : Float) → finite x ≡ false → finite (add f x y) ≡ false
unfolding add
add_not_finite f nan y h = refl
add_not_finite f (inf s) nan h = refl
add_not_finite f (inf s) (inf t) h = both (beq s t) s
add_not_finite f (inf s) (fin t n d) h = refl
add_not_finite f (fin s m e) y h = absurd (true≢false h)

pub add_not_finite_right : (f : Format) (x y : Float) → finite y ≡ false → finite (add f x y) ≡ false
add_not_finite_right f x y h = ap finite (commute f x y) ∙ add_not_finite f y x h

pub sub_not_finite : (f : Format) (x y : Float) → finite x ≡ false → finite (sub f x y) ≡ false
unfolding sub
sub_not_finite f x y h = add_not_finite f x (neg y) h

-- and of what is taken off
neg_not_finite : (y : Float) → finite y ≡ false → finite (neg y) ≡ false
unfolding neg
neg_not_finite nan h = refl
neg_not_finite (inf s) h = refl
neg_not_finite (fin s m e) h = absurd (true≢false h)

pub sub_not_finite_right : (f : Format) (x y : Float) → finite y ≡ false → finite (sub f x y) ≡ false
unfolding sub
sub_not_finite_right f x y h = add_not_finite_right f x (neg y) (neg_not_finite y h)

-- so a finite result tells that an operand is finite
pub was_finite : (x u : Float) → (finite x ≡ false → finite u ≡ false) → finite u ≡ true → finite x ≡ true
was_finite x u spoils h = go (finite x) refl
  where
    go : (b : Bool) → finite x ≡ b → finite x ≡ true
    go true e = e
    go false e = absurd (true≢false (sym h ∙ spoils e))

-- a pair of which a half is not finite, where what becomes of each half is not finite if it is not
pub half_not_finite : (x y u v : Float) → (finite x ≡ false → finite u ≡ false) → (finite y ≡ false → finite v ≡ false) → both_finite x y ≡ false → both_finite u v ≡ false
half_not_finite x y u v p q h = go (finite x) (finite y) refl refl h
  where
    go : (a b : Bool) → finite x ≡ a → finite y ≡ b → (a && b) ≡ false → both_finite u v ≡ false
    go false b e f k = rw (p e)
    go true false e f k = rw (q f) (and-false (finite u))
    go true true e f k = absurd (true≢false k)
