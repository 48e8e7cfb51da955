-- The remainder by TAU, for a float told by its bits: TAU is 7074237752028440 parts of 2 ^ -50, and from 4 on a float is a
-- whole number of them times a power of two. Assumes nothing.
use Rattle.std.proofs.Common.{◌≡◌, ℕ, zero, suc, ◌+◌, ◌-◌, ◌*◌, ◌/◌, ◌%◌, ◌^◌, ◌<◌, ◌≤◌, Bool, true, false, cond, not, T, eqb, leb, pos, negsuc, sym, refl, ap, ◌∙◌, subst, le_trans, lt_of_lt_of_le, lt_irrefl, mul_assoc, mul_comm, mul_right_comm, mul-one, zero-mul, zero-lt-suc, arith, lit<, lit≤, eqb→eq, le→leb, leb→le, pow_pos, pow_mono, pow-add}
use Rattle.std.proofs.Common.{mul-lt-mul_of_pos_right, mul-le-mul_left, mul-pos, inl, inr, ◌⊎◌, eq-or-lt_of_le}
use Rattle.std.proofs.Math.Nat.{mod-lt, add-mul, mod-eq_of_lt}
use Rattle.std.proofs.lemmas.Nat.{mod-mul-add, div-add-mod'}
use lib.Dec.{not_T}
use lib.Ieee.{Float, nan, inf, fin, Format, binary64, up, down, round, mul, rem, of_int, of_bits, of_fields, is_nan, fits, unlike}
use lib.Ieee.Bits.{cond_no}
use lib.Ieee.Fits.{down_pos}
use lib.Ieee.Positive.{first_pos}
use lib.Ieee.Exact.{HasValue, odd_sign, round_exact}
use lib.Ieee.Scale.{finite, round_same}
use Rattle.number.proofs.narrow.Signed.{field_of, digits_of, apart}
use Rattle.number.proofs.narrow.Fields.{subnormal, fields_value}
use Rattle.number.proofs.Told.{round_kept}
use Rattle.angle.specs.Numbers.{TAU}

-- ---- whole numbers

mod_scaled : (a b c : ℕ) → 0 < b → 0 < c → a % b * c ≡ a * c % (b * c)
mod_scaled a b c B C =
    sym
    (ap (λ (x : ℕ). x % (b * c)) (parts a b c)
    ∙ mod-mul-add (a / b) (b * c) (a % b * c) (mul-lt-mul_of_pos_right (mod-lt a B) C))
  where
    parts : (a b c : ℕ) → a * c ≡ a / b * (b * c) + a % b * c
    parts a b c =
        ap (λ (x : ℕ). x * c) (sym (div-add-mod' a b))
        ∙ add-mul (a / b * b) (a % b) c
        ∙ ap (λ (x : ℕ). x + a % b * c) (mul_assoc (a / b) b c)

-- ---- the remainder of two fractions with one denominator

rem_round : (f : Format) (x y : Float) (s t : Bool) (w v c : ℕ) → 0 < c → 0 < v → HasValue x s w c → HasValue y t v c → rem f x y ≡ round f s (w % v) c
unfolding rem
rem_round f nan y s t w v c C V X Y = absurd X
rem_round f (inf z) y s t w v c C V X Y = absurd X
rem_round f (fin z m e) nan s t w v c C V X Y = absurd Y
rem_round f (fin z m e) (inf u) s t w v c C V X Y = absurd Y
rem_round f (fin z m e) (fin u n d) s t w v c C V X Y =
    cond_no (eqb n 0) nan (round f z (P % Q) den) (not_T (eqb n 0) (λ h. none (eqb→eq n 0 h)))
    ∙ round_same f z (P % Q) den (w % v) c D C
    (mod_scaled P Q c some C ∙ ap (λ (a : ℕ). a % (Q * c)) p ∙ ap (λ (b : ℕ). w * den % b) q ∙ sym (mod_scaled w v den V D))
    ∙ ap (λ (b : Bool). round f b (w % v) c) X.0
  where
    P : ℕ
    P = m * up e * down d

    Q : ℕ
    Q = n * up d * down e

    den : ℕ
    den = down e * down d

    D : 0 < den
    D = mul-pos (down_pos e) (down_pos d)

    none : n ≡ 0 → ⊥
    none h =
        lt_irrefl 0
        (subst (λ (x : ℕ). 0 < x) (sym Y.1 ∙ ap (λ (k : ℕ). k * up d * c) h ∙ ap (λ (k : ℕ). k * c) (zero-mul (up d)) ∙ zero-mul c)
        (mul-pos V (down_pos d)))

    p : P * c ≡ w * den
    p = mul_right_comm (m * up e) (down d) c ∙ ap (λ (x : ℕ). x * down d) X.1 ∙ mul_assoc w (down e) (down d)

    q : Q * c ≡ v * den
    q =
        mul_right_comm (n * up d) (down e) c
        ∙ ap (λ (x : ℕ). x * down e) Y.1
        ∙ mul_assoc v (down d) (down e)
        ∙ ap (λ (x : ℕ). v * x) (mul_comm (down d) (down e))

    some : 0 < Q
    some = first_pos Q c (subst (λ (x : ℕ). 0 < x) (sym q) (mul-pos V D))

pub tau : HasValue TAU false (7074237752028440 * 2 ^ 1024) (2 ^ 1074)
unfolding of_bits
tau = (refl, refl)

-- ---- what a pattern stands for

-- below 4, it is less than a turn
small_fields : (s : Bool) (g d : ℕ) → d < 4503599627370496 → g < 1025
    → (w : ℕ) × HasValue (of_fields binary64 s g d) s w (2 ^ 1074) × (w < 7074237752028440 * 2 ^ 1024)
small_fields s zero d D h = (
  d * 2 ^ 0,
  subst (λ (v : Float). HasValue v s (d * 2 ^ 0) (2 ^ 1074)) (sym (subnormal s d)) (odd_sign 53 s d 0 1074),
  lt_of_lt_of_le (subst (λ (x : ℕ). x < 4503599627370496) (sym (mul-one d)) D) (lit≤ tt),
)
small_fields s (suc x) d D h =
    let few : suc x < 2047 = omega arith in
    let top : d + 4503599627370496 < 9007199254740992 = omega arith in
    let low : suc x - 1 ≤ 1023 = omega arith in (
      (d + 4503599627370496) * 2 ^ (suc x - 1),
      fields_value s (suc x) d (zero-lt-suc x) few,
      lt_of_lt_of_le (mul-lt-mul_of_pos_right top (pow_pos (suc x - 1)))
          (le_trans (mul-le-mul_left 9007199254740992 (pow_mono low)) (lit≤ tt)),
    )

-- ---- below 4: x is its own rest

within_turn : (x : Float) (s : Bool) (w : ℕ) → T (fits binary64 x) → HasValue x s w (2 ^ 1074) → w < 7074237752028440 * 2 ^ 1024 → x ≡ rem binary64 x TAU
within_turn x s w F H l =
    sym
    (rem_round binary64 x TAU s false w (7074237752028440 * 2 ^ 1024) (2 ^ 1074) (pow_pos 1074) (mul-pos {m = 7074237752028440} (lit< tt) (pow_pos 1024)) H tau
    ∙ ap (λ (v : ℕ). round binary64 s v (2 ^ 1074)) (mod-eq_of_lt l)
    ∙ round_kept binary64 s x w F H)

pub below_four : (x : Float) (b : ℕ) → T (fits binary64 x) → of_bits binary64 b ≡ x → field_of b < 1025 → x ≡ rem binary64 x TAU
below_four x b F B h =
    let s = leb 9223372036854775808 b in
    let (w, H, l) = small_fields s (field_of b) (digits_of b) (digits b) h in
    within_turn x s w F (subst (λ (v : Float). HasValue v s w (2 ^ 1074)) (sym (apart b) ∙ B) H) l
  where
    digits : (b : ℕ) → digits_of b < 4503599627370496
    digits b = omega arith

-- ---- from 4 on: a whole number of parts, doubled

beyond_turn : (x : Float) (s : Bool) (m g : ℕ) → HasValue x s (m * 2 ^ (g - 1)) (2 ^ 1074) → 1025 ≤ g
    → round binary64 s (m * 2 ^ (g - 1025) % 7074237752028440 * 2 ^ 1024) (2 ^ 1074) ≡ rem binary64 x TAU
beyond_turn x s m g H l =
    sym
    (rem_round binary64 x TAU s false (m * 2 ^ (g - 1)) (7074237752028440 * 2 ^ 1024) (2 ^ 1074) (pow_pos 1074) (mul-pos {m = 7074237752028440} (lit< tt) (pow_pos 1024)) H tau
    ∙ ap (λ (v : ℕ). round binary64 s v (2 ^ 1074))
    (ap (λ (v : ℕ). v % (7074237752028440 * 2 ^ 1024)) scaled
    ∙ sym (mod_scaled (m * 2 ^ (g - 1025)) 7074237752028440 (2 ^ 1024) (lit< tt) (pow_pos 1024))))
  where
    up_by : (g : ℕ) → 1025 ≤ g → g - 1 ≡ g - 1025 + 1024
    up_by g l = omega arith

    scaled : m * 2 ^ (g - 1) ≡ m * 2 ^ (g - 1025) * 2 ^ 1024
    scaled =
        ap (λ (k : ℕ). m * 2 ^ k) (up_by g l)
        ∙ ap (λ (k : ℕ). m * k) (pow-add 2 (g - 1025) 1024)
        ∙ sym (mul_assoc m (2 ^ (g - 1025)) (2 ^ 1024))

-- r parts of 2 ^ -50, with a sign
times : (z : Float) (t : Bool) (r : ℕ) → HasValue z false r 1 → mul binary64 z (fin t 1 (negsuc 49)) ≡ round binary64 t (r * 2 ^ 1024) (2 ^ 1074)
unfolding mul
times nan t r H = absurd H
times (inf y) t r H = absurd H
times (fin y m e) t r H =
    round_same binary64 (unlike y t) (m * up e * (1 * 1)) (down e * 2 ^ 50) (r * 2 ^ 1024) (2 ^ 1074)
    (mul-pos (down_pos e) (pow_pos 50)) (pow_pos 1074)
    (ap (λ (x : ℕ). x * 2 ^ 1074) H.1 ∙ crossed r (down e) (2 ^ 1024) (2 ^ 50))
    ∙ ap (λ (b : Bool). round binary64 b (r * 2 ^ 1024) (2 ^ 1074)) (ap (λ (b : Bool). unlike b t) H.0 ∙ own t)
  where
    own : (t : Bool) → unlike false t ≡ t
    own true = refl
    own false = refl

    crossed : (r e a b : ℕ) → r * e * (a * b) ≡ r * a * (e * b)
    crossed r e a b = sym (mul_assoc (r * e) a b) ∙ ap (λ (x : ℕ). x * b) (mul_right_comm r e a) ∙ mul_assoc (r * a) e b

whole_value : (r : ℕ) → r < 2 ^ 53 → HasValue (of_int binary64 (pos r)) false r 1
unfolding of_int
whole_value r h = round_exact binary64 false r 1 r 1074 (lit< tt) h (lt_of_lt_of_le (mul-lt-mul_of_pos_right h (pow_pos 1074)) (lit≤ tt)) (sym (mul-one (r * 2 ^ 1074)))

pub from_four : (x : Float) (b : ℕ) (t : Bool) → of_bits binary64 b ≡ x → 1025 ≤ field_of b → field_of b < 2047 → leb 9223372036854775808 b ≡ t
    → mul binary64 (of_int binary64 (pos ((digits_of b + 4503599627370496) * 2 ^ (field_of b - 1025) % 7074237752028440))) (fin t 1 (negsuc 49)) ≡ rem binary64 x TAU
from_four x b t B l u S =
    times (of_int binary64 (pos r)) t r (whole_value r (lt_of_lt_of_le (mod-lt _ (lit< tt)) (lit≤ tt)))
    ∙ beyond_turn x t (digits_of b + 4503599627370496) (field_of b)
    (subst (λ (v : Float). HasValue v t ((digits_of b + 4503599627370496) * 2 ^ (field_of b - 1)) (2 ^ 1074))
    (ap (λ (s : Bool). of_fields binary64 s (field_of b) (digits_of b)) (sym S) ∙ sym (apart b) ∙ B)
    (fields_value t (field_of b) (digits_of b) (lt_of_lt_of_le (lit< tt) l) u))
    l
  where
    r : ℕ
    r = (digits_of b + 4503599627370496) * 2 ^ (field_of b - 1025) % 7074237752028440

-- ---- what is finite, and what is not

pub not_finite_rest : (x : Float) → finite x ≡ false → nan ≡ rem binary64 x TAU
unfolding rem
not_finite_rest nan h = refl
not_finite_rest (inf s) h = refl
not_finite_rest (fin s m e) h = cc

pub finite_number : (x : Float) → finite x ≡ true → T (not (is_nan x))
unfolding is_nan
finite_number nan h = cc
finite_number (inf s) h = tt
finite_number (fin s m e) h = tt

field_below : (s : Bool) (g d : ℕ) → g ≤ 2047 → finite (of_fields binary64 s g d) ≡ true → g < 2047
unfolding of_fields
field_below s g d l h = go (eq-or-lt_of_le l)
  where
    none : (b : Bool) → finite (cond b (inf s) nan) ≡ true → ⊥
    none true e = cc
    none false e = cc

    go : (g ≡ 2047) ⊎ (g < 2047) → g < 2047
    go (inl e) = absurd (none (eqb d 0) (subst (λ (x : ℕ). finite (of_fields binary64 s x d) ≡ true) e h))
    go (inr k) = k

pub finite_field : (x : Float) (b : ℕ) → of_bits binary64 b ≡ x → finite x ≡ true → field_of b < 2047
finite_field x b B h =
    field_below (leb 9223372036854775808 b) (field_of b) (digits_of b) (most b) (ap finite (sym (apart b) ∙ B) ∙ h)
  where
    most : (b : ℕ) → field_of b ≤ 2047
    most b = omega arith

pub sign_set : (b : ℕ) → 9223372036854775808 ≤ b → leb 9223372036854775808 b ≡ true
sign_set b h = go (leb 9223372036854775808 b) (le→leb 9223372036854775808 b h)
  where
    go : (v : Bool) → T v → v ≡ true
    go true t = refl
    go false t = absurd t

pub sign_clear : (b : ℕ) → b < 9223372036854775808 → leb 9223372036854775808 b ≡ false
sign_clear b h = go (leb 9223372036854775808 b) (leb→le 9223372036854775808 b)
  where
    go : (v : Bool) → (T v → 9223372036854775808 ≤ b) → v ≡ false
    go true f = absurd (lt_irrefl b (lt_of_lt_of_le h (f tt)))
    go false f = refl
