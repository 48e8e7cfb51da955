-- Width changes without the method. `narrowed` makes of an f64 what IEEE 754 asks: below the overflow the nearest f32,
-- of two equally near the even one, with the number's sign, and from there on the infinity of that sign. An f32 as an
-- f64 is the same value. No second value of the format has these properties. Assumes nothing.
use Rattle.std.proofs.Common.{◌≡◌, ℕ, suc, ◌+◌, ◌*◌, ◌^◌, ◌<◌, ◌≤◌, Bool, T, ◌⊎◌, ℤ, pos, sym, refl, ap, ◌∙◌, subst, inl, inr, add_comm, pow_pos}
use lib.Ieee.{Float, nan, inf, fin, Format, binary32, binary64, emax, low, up, down, round, fits}
use lib.Ieee.Fits.{down_pos, fits_widens, nan-fits, inf-fits, round-fits}
use lib.Ieee.Exact.{HasValue, round_exact}
use lib.Ieee.Scale.{finite, round_same}
use Rattle.number.specs.Kinds.{negative}
use Rattle.number.specs.Narrow.{narrowed}
use Rattle.number.specs.Nearest.{too_large, RoundsTo, Becomes}
use Rattle.number.proofs.Pack.{split}
use Rattle.number.proofs.Adding.{same_value}
use Rattle.number.proofs.Grid.{on_grid, bounded, counted, is_finite}
use Rattle.number.proofs.Rounded.{round_told}

-- ---- an f64 as an f32
pub narrow_told : (x : Float)
    → T (fits binary32 (narrowed x)) × Becomes binary32 x (narrowed x)
    × ((y : Float) → T (fits binary32 y) → Becomes binary32 x y → y ≡ narrowed x)
unfolding narrowed
narrow_told nan = (nan-fits binary32, refl, λ y F e. e)
narrow_told (inf s) = (inf-fits binary32 s, refl, λ y F e. e)
narrow_told (fin s m e) = round_told binary32 s (m * up e) (down e) (down_pos e)

-- the same by any fraction a / c that x is, such as the count of its smallest values, at c = 2 ^ 1074
pub narrow_counted : (x : Float) (s : Bool) (a c : ℕ) → 0 < c → HasValue x s a c → RoundsTo binary32 s a c (narrowed x)
unfolding narrowed
narrow_counted x s a c C h =
    subst (λ (r : Float). RoundsTo binary32 s a c r) (sym (is_round x h)) (round_told binary32 s a c C).1
  where
    is_round : (x : Float) → HasValue x s a c → narrowed x ≡ round binary32 s a c
    is_round nan h = absurd h
    is_round (inf t) h = absurd h
    is_round (fin t m e) h =
        ap (λ (z : Bool). round binary32 z (m * up e) (down e)) h.0
        ∙ round_same binary32 s (m * up e) (down e) a c (down_pos e) C h.1

-- below the overflow the result is finite
pub narrow_finite : (s : Bool) (m : ℕ) (e : ℤ) → m * up e < too_large binary32 * down e
    → T (finite (narrowed (fin s m e)))
narrow_finite s m e h =
    let N = (narrow_told (fin s m e)).1.0 h in
    is_finite (narrowed (fin s m e)) s N.0 (2 ^ low binary32) N.1

-- the sign is kept, where the result is a zero too
pub narrow_sign : (x : Float) → negative (narrowed x) ≡ negative x
unfolding narrowed negative
narrow_sign nan = refl
narrow_sign (inf s) = refl
narrow_sign (fin s m e) = go (split a (too_large binary32 * c))
  where
    a : ℕ
    a = m * up e

    c : ℕ
    c = down e

    r : Float
    r = round binary32 s a c

    R : RoundsTo binary32 s a c r
    R = (round_told binary32 s a c (down_pos e)).1

    sign_is : (r : Float) (v : ℕ) → HasValue r s v (2 ^ low binary32) → negative r ≡ s
    sign_is nan v h = absurd h
    sign_is (inf t) v h = absurd h
    sign_is (fin t m e) v h = h.0

    go : (a < too_large binary32 * c) ⊎ (too_large binary32 * c ≤ a) → negative r ≡ s
    go (inl h) = let N = R.0 h in sign_is r N.0 N.1
    go (inr h) = ap negative (R.1 h)

pub narrow_zero : (s : Bool) → narrowed (fin s 0 (pos 0)) ≡ fin s 0 (pos 0)
unfolding narrowed
narrow_zero s = refl

-- ---- what the format holds stays as it is
pub round_kept : (f : Format) (s : Bool) (x : Float) (w : ℕ) → T (fits f x) → HasValue x s w (2 ^ low f)
    → round f s w (2 ^ low f) ≡ x
round_kept f s x w F H =
    let (a, i, A, e) = on_grid f s x w F H in
    let under : w < 2 ^ (low f + suc (emax f)) =
    subst (λ (z : ℕ). w < 2 ^ z) (add_comm (suc (emax f)) (low f)) (bounded f s x w F H) in
    let exact : HasValue (round f s w (2 ^ low f)) s w (2 ^ low f) =
    round_exact f s w (2 ^ low f) a i (pow_pos (low f)) A (subst (λ (v : ℕ). v < 2 ^ (low f + suc (emax f))) e under)
    (ap (λ (v : ℕ). v * 2 ^ low f) e) in
    same_value f s (round f s w (2 ^ low f)) x w (round-fits f s w (2 ^ low f)) F exact H

round_itself : (f : Format) (s : Bool) (m : ℕ) (e : ℤ) → T (fits f (fin s m e))
    → round f s (m * up e) (down e) ≡ fin s m e
round_itself f s m e F =
    let (t, w, H) = counted f (fin s m e) F tt in
    round_same f s (m * up e) (down e) w (2 ^ low f) (down_pos e) (pow_pos (low f)) H.1
    ∙ round_kept f s (fin s m e) w F (refl, H.1)

pub held_told : (f : Format) (x : Float) → T (fits f x)
    → Becomes f x x × ((y : Float) → T (fits f y) → Becomes f x y → y ≡ x)
held_told f nan F = (refl, λ y Y e. e)
held_told f (inf s) F = (refl, λ y Y e. e)
held_told f (fin s m e) F =
    let R = round_told f s (m * up e) (down e) (down_pos e) in
    let i = round_itself f s m e F in
    (subst (λ (r : Float). RoundsTo f s (m * up e) (down e) r) i R.1, λ y Y h. R.2 y Y h ∙ i)

-- ---- an f32 as an f64 is the same value, and narrowing that gives it back
pub widen_told : (x : Float) → T (fits binary32 x)
    → T (fits binary64 x) × Becomes binary64 x x × ((y : Float) → T (fits binary64 y) → Becomes binary64 x y → y ≡ x)
widen_told x F = let h = held_told binary64 x (fits_widens x F) in (fits_widens x F, h.0, h.1)

pub narrow_keeps : (x : Float) → T (fits binary32 x) → narrowed x ≡ x
narrow_keeps x F = sym ((narrow_told x).2 x F (held_told binary32 x F).0)
