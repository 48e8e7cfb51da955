-- Rounding by adding and taking off. With c = 2 ^ 52 * 2 ^ j units, the sum y + c of a much smaller y keeps the multiples of 2 ^ j units, since binary64 has 53 digits,
-- and c is an even multiple, so that a tie goes to the even one of y's own. The difference (y + c) - c is exact. Where 2 ^ j is binary32's last place at y, it is y narrowed.
-- Also: the sum and the difference of two values that are not negative, by any fractions that they equal; and two values of one size are the same value. Assumes nothing.
use Rattle.std.proofs.Common.{◌≡◌, ℕ, ◌+◌, ◌-◌, ◌*◌, ◌/◌, ◌%◌, ◌^◌, ◌<◌, ◌≤◌, Bool, true, false, cond, not, T, ltb, sym, refl, ap, ◌∙◌, subst, ap₂, inr, le_trans, le_of_eq, lt_of_lt_of_le, lt_of_le_of_lt, mul-le-mul_right, mul_assoc, mul_comm, div-lt_iff_lt-mul, add-mul, add_comm, mul-le-mul_left, mul-pos, mul_right_comm, not-le_of_lt, le_of_mul-le-mul_right, arith, lit<, lit≤, ltb→lt, pow_pos, pow_mono, pow-add}
use Prim.Native.Nat.{compare, Ordering}
use native.Mathlib.Nat.{add-mul-div_right, mul-add-mod_self_right}
use lib.Ieee.{Float, nan, inf, fin, Format, binary32, binary64, low, up, down, nearest, units, round, sum, add, sub, neg, fits, of_bits}
use lib.Ieee.Fits.{down_pos, nearest-le, sub-fits, fits_widens}
use lib.Ieee.Exact.{HasValue, units_val, round_exact}
use lib.Ieee.Nearest.{closest}
use lib.Ieee.Scale.{round_same}
use lib.Ieee.Bits.{of_bits-to_bits}
use Rattle.number.proofs.Pack.{to_bits_val, units_fits}
use Rattle.number.proofs.Dyadic.{round_dyadic}

-- ---- sums and differences
-- A / C and B / C are a / c and b / c
plus_same : (A B C a b c : ℕ) → A * c ≡ a * C → B * c ≡ b * C → (A + B) * c ≡ (a + b) * C
plus_same A B C a b c p q = add-mul A B c ∙ ap₂ (λ (x y : ℕ). x + y) p q ∙ sym (add-mul a b C)

-- p / e with the denominator e * d
pub over_both : (p a c e d : ℕ) → p * c ≡ a * e → p * d * c ≡ a * (e * d)
over_both p a c e d h = mul_right_comm p d c ∙ ap (λ (x : ℕ). x * d) h ∙ mul_assoc a e d

pub over_both' : (p a c e d : ℕ) → p * c ≡ a * d → p * e * c ≡ a * (e * d)
over_both' p a c e d h = over_both p a c d e h ∙ ap (λ (x : ℕ). a * x) (mul_comm d e)

pub add_at : (f : Format) (x y : Float) (a b c : ℕ) → HasValue x false a c → HasValue y false b c → 0 < c → add f x y ≡ round f false (a + b) c
unfolding add sum
add_at f nan y a b c h k C = absurd h
add_at f (inf s) y a b c h k C = absurd h
add_at f (fin s m e) nan a b c h k C = absurd k
add_at f (fin s m e) (inf t) a b c h k C = absurd k
add_at f (fin s m e) (fin t n d) a b c h k C =
    ap (λ (z : Bool). sum f z (m * up e * down d) t (n * up d * down e) (down e * down d)) h.0
    ∙ ap (λ (z : Bool). sum f false (m * up e * down d) z (n * up d * down e) (down e * down d)) k.0
    ∙ round_same f false (m * up e * down d + n * up d * down e) (down e * down d) (a + b) c (mul-pos (down_pos e) (down_pos d)) C
    (plus_same (m * up e * down d) (n * up d * down e) (down e * down d) a b c (over_both (m * up e) a c (down e) (down d) h.1) (over_both' (n * up d) b c (down e) (down d) k.1))

minus_pick : (f : Format) (a b c : ℕ) → b ≤ a → sum f false a true b c ≡ round f false (a - b) c
unfolding sum
minus_pick f a b c h = go (ltb a b) (ltb→lt a b)
  where
    go : (t : Bool) → (T t → a < b) → cond t (round f true (b - a) c) (round f false (a - b) c) ≡ round f false (a - b) c
    go true k = absurd (not-le_of_lt (k tt) h)
    go false k = refl

pub minus_same : (A B C a b c : ℕ) → A * c ≡ a * C → B * c ≡ b * C → B ≤ A → b ≤ a → (A - B) * c ≡ (a - b) * C
minus_same A B C a b c p q h l = both ((A - B) * c) (B * c) (A * c) ((a - b) * C) (b * C) (a * C) (back A B c h) (back a b C l) q p
  where
    back : (v u c : ℕ) → u ≤ v → (v - u) * c + u * c ≡ v * c
    back v u c h = sym (add-mul (v - u) u c) ∙ ap (λ (x : ℕ). x * c) (less v u h)
      where
        less : (v u : ℕ) → u ≤ v → v - u + u ≡ v
        less v u h = omega arith

    both : (x u v y a b : ℕ) → x + u ≡ v → y + a ≡ b → u ≡ a → v ≡ b → x ≡ y
    both x u v y a b h k p q = omega arith

pub order : (u v a b c k : ℕ) → 0 < c → u * c ≡ a * k → v * c ≡ b * k → a ≤ b → u ≤ v
order u v a b c k C p q h = le_of_mul-le-mul_right (subst (λ (x : ℕ). x ≤ v * c) (sym p) (subst (λ (x : ℕ). a * k ≤ x) (sym q) (mul-le-mul_right k h))) C

pub sub_at : (f : Format) (x y : Float) (a b c : ℕ) → HasValue x false a c → HasValue y false b c → 0 < c → b ≤ a → sub f x y ≡ round f false (a - b) c
unfolding sub add neg
sub_at f nan y a b c h k C l = absurd h
sub_at f (inf s) y a b c h k C l = absurd h
sub_at f (fin s m e) nan a b c h k C l = absurd k
sub_at f (fin s m e) (inf t) a b c h k C l = absurd k
sub_at f (fin s m e) (fin t n d) a b c h k C l =
    let u = m * up e * down d in
    let v = n * up d * down e in
    let w = down e * down d in
    let pu : u * c ≡ a * w = over_both (m * up e) a c (down e) (down d) h.1 in
    let pv : v * c ≡ b * w = over_both' (n * up d) b c (down e) (down d) k.1 in
    let vu : v ≤ u = order v u b a c w C pv pu l in
    ap (λ (z : Bool). sum f z u (not t) v w) h.0
    ∙ ap (λ (z : Bool). sum f false u (not z) v w) k.0
    ∙ minus_pick f u v w vu
    ∙ round_same f false (u - v) w (a - b) c (mul-pos (down_pos e) (down_pos d)) C (minus_same u v w a b c pu pv vu l)

-- ---- values
pub same_value : (f : Format) (s : Bool) (x y : Float) (v : ℕ) → T (fits f x) → T (fits f y) → HasValue x s v (2 ^ low f) → HasValue y s v (2 ^ low f) → x ≡ y
same_value f s x y v X Y p q = sym (of_bits-to_bits f x X) ∙ ap (of_bits f) (to_bits_val f s x v p ∙ sym (to_bits_val f s y v q)) ∙ of_bits-to_bits f y Y

pub finer : (x : Float) (s : Bool) (a c w : ℕ) → HasValue x s a c → HasValue x s (a * w) (c * w)
finer nan s a c w h = h
finer (inf t) s a c w h = h
finer (fin t m e) s a c w h = (h.0, sym (mul_assoc (m * up e) c w) ∙ ap (λ (x : ℕ). x * w) h.1 ∙ mul_right_comm a (down e) w)

-- ---- an even number of whole parts more
nearest_more : (q w : ℕ) (o : Ordering) → nearest (q + 2 * w) o ≡ 2 * w + nearest q o
nearest_more q w Ordering.lt = omega arith
nearest_more q w Ordering.eq = omega arith
nearest_more q w Ordering.gt = omega arith

pub closest_more : (D w B : ℕ) → 0 < B → closest (D + 2 * w * B) B ≡ 2 * w + closest D B
closest_more D w B P =
    ap (λ (x : ℕ). nearest x (compare ((D + 2 * w * B) % B * 2) B)) (add-mul-div_right D (2 * w) P)
    ∙ ap (λ (x : ℕ). nearest (D / B + 2 * w) (compare (x * 2) B)) (ap (λ (x : ℕ). x % B) (add_comm D (2 * w * B)) ∙ mul-add-mod_self_right (2 * w) B D)
    ∙ nearest_more (D / B) w (compare (D % B * 2) B)

-- ---- (y + c) - c
pub kept_le : (D h : ℕ) → D < 2 ^ (24 + h) → closest D (2 ^ h) ≤ 16777216
kept_le D h l = le_trans (nearest-le (D / 2 ^ h) (compare (D % 2 ^ h * 2) (2 ^ h))) ((div-lt_iff_lt-mul (pow_pos h)).1 (lt_of_lt_of_le l (le_of_eq (pow-add 2 24 h))))

-- 53 digits at a place that is low enough are below the overflow
pub below_top : (q j : ℕ) → q ≤ 9007199254740992 → j ≤ 2000 → q * 2 ^ j < 2 ^ 2098
below_top q j l room = lt_of_le_of_lt (mul-le-mul_right (2 ^ j) l) (lt_of_le_of_lt (mul-le-mul_left 9007199254740992 (pow_mono room)) (lit< tt))

module _ (y c : Float) (D x h : ℕ) (Y : HasValue y false (D * 2 ^ x) (2 ^ 1074)) (C : HasValue c false (4503599627370496 * 2 ^ (x + h)) (2 ^ 1074)) (small : D < 2 ^ (24 + h)) (room : x + h ≤ 2000) where
  abbrev Q : ℕ
  Q = closest D (2 ^ h)

  abbrev M : ℕ
  M = D + 4503599627370496 * 2 ^ h

  num_is : D * 2 ^ x + 4503599627370496 * 2 ^ (x + h) ≡ M * 2 ^ x
  num_is = ap (λ (z : ℕ). D * 2 ^ x + z) (ap (λ (z : ℕ). 4503599627370496 * z) (pow-add 2 x h ∙ mul_comm (2 ^ x) (2 ^ h)) ∙ sym (mul_assoc 4503599627370496 (2 ^ h) (2 ^ x))) ∙ sym (add-mul D (4503599627370496 * 2 ^ h) (2 ^ x))

  M-lt : M < 2 ^ (53 + h)
  M-lt = lt_of_lt_of_le (less D (2 ^ h) (lt_of_lt_of_le small (le_of_eq (pow-add 2 24 h)))) (le_of_eq (sym (pow-add 2 53 h)))
    where
      less : (D p : ℕ) → D < 16777216 * p → D + 4503599627370496 * p < 9007199254740992 * p
      less D p l = omega arith

  M-ge : 2 ^ (52 + h) ≤ M
  M-ge = le_trans (le_of_eq (pow-add 2 52 h)) (more D (4503599627370496 * 2 ^ h))
    where
      more : (D p : ℕ) → p ≤ D + p
      more D p = omega arith

  sum_is : add binary64 y c ≡ units binary64 false (4503599627370496 + Q) (x + h)
  sum_is =
      add_at binary64 y c (D * 2 ^ x) (4503599627370496 * 2 ^ (x + h)) (2 ^ 1074) Y C (pow_pos 1074)
      ∙ ap (λ (z : ℕ). round binary64 false z (2 ^ 1074)) num_is
      ∙ round_dyadic binary64 false M x 1074 (x + h) h (turn x h) M-lt (inr M-ge)
      ∙ ap (λ (z : ℕ). units binary64 false z (x + h)) (closest_more D 2251799813685248 (2 ^ h) (pow_pos h))
    where
      turn : (x h : ℕ) → x + (1074 + h) ≡ x + h + 1074
      turn x h = omega arith

  under : (q : ℕ) → q ≤ 9007199254740992 → q * 2 ^ (x + h) < 2 ^ 2098
  under q l = below_top q (x + h) l room

  Q-le : Q ≤ 16777216
  Q-le = kept_le D h small

  value_of_sum : HasValue (add binary64 y c) false ((4503599627370496 + Q) * 2 ^ (x + h)) (2 ^ 1074)
  value_of_sum = subst (λ (z : Float). HasValue z false ((4503599627370496 + Q) * 2 ^ (x + h)) (2 ^ 1074)) (sym sum_is) (units_val binary64 false (4503599627370496 + Q) (x + h) (under (4503599627370496 + Q) (sum_le Q Q-le)))
    where
      sum_le : (q : ℕ) → q ≤ 16777216 → 4503599627370496 + q ≤ 9007199254740992
      sum_le q l = omega arith

  rest_is : (4503599627370496 + Q) * 2 ^ (x + h) - 4503599627370496 * 2 ^ (x + h) ≡ Q * 2 ^ (x + h)
  rest_is = ap (λ (z : ℕ). z - 4503599627370496 * 2 ^ (x + h)) (add-mul 4503599627370496 Q (2 ^ (x + h))) ∙ off (4503599627370496 * 2 ^ (x + h)) (Q * 2 ^ (x + h))
    where
      off : (a b : ℕ) → a + b - a ≡ b
      off a b = omega arith

  more_le : 4503599627370496 * 2 ^ (x + h) ≤ (4503599627370496 + Q) * 2 ^ (x + h)
  more_le = mul-le-mul_right (2 ^ (x + h)) (up_by 4503599627370496 Q)
    where
      up_by : (a b : ℕ) → a ≤ a + b
      up_by a b = omega arith

  pub on_grid : HasValue (sub binary64 (add binary64 y c) c) false (Q * 2 ^ (x + h)) (2 ^ 1074)
  on_grid =
      subst (λ (z : Float). HasValue z false (Q * 2 ^ (x + h)) (2 ^ 1074))
      (sym (sub_at binary64 (add binary64 y c) c ((4503599627370496 + Q) * 2 ^ (x + h)) (4503599627370496 * 2 ^ (x + h)) (2 ^ 1074) value_of_sum C (pow_pos 1074) more_le ∙ ap (λ (z : ℕ). round binary64 false z (2 ^ 1074)) rest_is))
      (round_exact binary64 false (Q * 2 ^ (x + h)) (2 ^ 1074) Q (x + h) (pow_pos 1074) (lt_of_le_of_lt Q-le (lit< tt)) (under Q (le_trans Q-le (lit≤ tt))) refl)

-- The same as a value of binary32: k is the place of its last digit, in units of its smallest value (2 ^ 925 of binary64's).
pub narrowed_by_adding : (y c : Float) (D x h k : ℕ) → HasValue y false (D * 2 ^ x) (2 ^ 1074) → HasValue c false (4503599627370496 * 2 ^ (k + 925)) (2 ^ 1074) → x + h ≡ k + 925 → D < 2 ^ (24 + h) → k ≤ 1000 → closest D (2 ^ h) * 2 ^ k < 2 ^ 277
    → sub binary64 (add binary64 y c) c ≡ units binary32 false (closest D (2 ^ h)) k
narrowed_by_adding y c D x h k Y C e small K U =
    let q = closest D (2 ^ h) in
    let t = sub binary64 (add binary64 y c) c in
    let C' : HasValue c false (4503599627370496 * 2 ^ (x + h)) (2 ^ 1074) = subst (λ (z : ℕ). HasValue c false (4503599627370496 * 2 ^ z) (2 ^ 1074)) (sym e) C in
    let v : HasValue t false (q * 2 ^ (k + 925)) (2 ^ 1074) = subst (λ (z : ℕ). HasValue t false (q * 2 ^ z) (2 ^ 1074)) e (on_grid y c D x h Y C' small (room x h k e K)) in
    let w : HasValue (units binary32 false q k) false (q * 2 ^ k * 2 ^ 925) (2 ^ 149 * 2 ^ 925) = finer (units binary32 false q k) false (q * 2 ^ k) (2 ^ 149) (2 ^ 925) (units_val binary32 false q k U) in
    same_value binary64 false t (units binary32 false q k) (q * 2 ^ (k + 925)) (sub-fits binary64 (add binary64 y c) c) (fits_widens (units binary32 false q k) (units_fits binary32 false q k (kept_le D h small))) v
    (subst (λ (z : ℕ). HasValue (units binary32 false q k) false z (2 ^ 1074)) (mul_assoc q (2 ^ k) (2 ^ 925) ∙ ap (λ (z : ℕ). q * z) (sym (pow-add 2 k 925))) w)
  where
    room : (x h k : ℕ) → x + h ≡ k + 925 → k ≤ 1000 → x + h ≤ 2000
    room x h k e K = omega arith
