-- Rounding by splitting, after Veltkamp: with p = (2 ^ 29 + 1) x, the difference p - (p - x) is x with 24 digits kept, a tie to the even one, and x's sign.
-- The product keeps 53 digits, so that in x's own last places it is rounded at 2 ^ 29, or at 2 ^ 30 where it is that long; p - x takes out what was rounded. Assumes nothing.
use Rattle.std.proofs.Common.{◌≡◌, ℕ, suc, ◌+◌, ◌-◌, ◌*◌, ◌/◌, ◌%◌, ◌^◌, ◌<◌, ◌≤◌, Bool, true, false, cond, not, ◌&&◌, T, ltb, ◌⊎◌, sym, refl, ap, ◌∙◌, subst, ap₂, inl, inr, le_trans, lt_of_lt_of_le, lt_of_le_of_lt, mul_assoc, mul_comm, div-lt_iff_lt-mul, mul-lt-mul_of_pos_right, mul-pos, lt_of_not-le, mul_right_comm, not-le_of_lt, arith, lit<, lit≤, ltb→lt, lt→ltb, pow_pos, pow-add}
use Prim.Native.Nat.{compare}
use native.Mathlib.Nat.{div-eq_of_lt-le, mul-mul-mul_comm, mul-sub, pow-succ'}
use mathlib.Core.Bool.{beq}
use lib.Ieee.{Float, nan, inf, fin, Format, binary64, unlike, up, down, units, round, sum, add, sub, mul, neg}
use lib.Ieee.Bits.{is_true}
use lib.Ieee.Fits.{down_pos, nearest-le}
use lib.Ieee.Exact.{HasValue, units_val, round_exact}
use lib.Ieee.Nearest.{closest}
use lib.Ieee.Scale.{round_same}
use Rattle.number.proofs.Pack.{split}
use Rattle.number.proofs.Nearest.{nearest_lt, nearest_gt, nearest_eq}
use Rattle.number.proofs.Dyadic.{round_dyadic}
use Rattle.number.proofs.Adding.{over_both, over_both', minus_same, order, kept_le, below_top}
use Rattle.number.proofs.narrow.Fields.{kept_ge}
use Rattle.number.proofs.narrow.Shift.{half_even}

-- ---- a product by a number above 0, and a difference of two of one sign, by any fractions that they equal
pub mul_signed : (f : Format) (x y : Float) (s : Bool) (a c b d : ℕ) → HasValue x s a c → HasValue y false b d → 0 < c → 0 < d → mul f x y ≡ round f s (a * b) (c * d)
unfolding mul
mul_signed f nan y s a c b d h k C D = absurd h
mul_signed f (inf t) y s a c b d h k C D = absurd h
mul_signed f (fin t m e) nan s a c b d h k C D = absurd k
mul_signed f (fin t m e) (inf u) s a c b d h k C D = absurd k
mul_signed f (fin t m e) (fin u n g) s a c b d h k C D =
    ap (λ (z : Bool). round f (unlike z u) (m * up e * (n * up g)) (down e * down g)) h.0
    ∙ ap (λ (z : Bool). round f z (m * up e * (n * up g)) (down e * down g)) (ap (unlike s) k.0 ∙ same s)
    ∙ round_same f s (m * up e * (n * up g)) (down e * down g) (a * b) (c * d) (mul-pos (down_pos e) (down_pos g)) (mul-pos C D)
    (mul-mul-mul_comm (m * up e) (n * up g) c d ∙ ap (λ (z : ℕ). z * (n * up g * d)) h.1 ∙ ap (λ (z : ℕ). a * down e * z) k.1 ∙ mul-mul-mul_comm a (down e) b (down g))
  where
    same : (s : Bool) → unlike s false ≡ s
    same true = refl
    same false = refl

less_pick : (f : Format) (s : Bool) (a b c : ℕ) → b < a → sum f s a (not s) b c ≡ round f s (a - b) c
unfolding sum
less_pick f s a b c h = go s (ltb a b) (ltb b a) (ltb→lt a b) (is_true (ltb b a) (lt→ltb b a h))
  where
    apart : (a b : ℕ) → a < b → b < a → ⊥
    apart a b h k = omega arith

    go : (s t u : Bool) → (T t → a < b) → u ≡ true → cond (beq s (not s)) (round f s (a + b) c) (cond t (round f (not s) (b - a) c) (round f (s && u) (a - b) c)) ≡ round f s (a - b) c
    go s true u k e = absurd (apart a b (k tt) h)
    go true false u k e = ap (λ (z : Bool). round f z (a - b) c) e
    go false false u k e = refl

pub sub_signed : (f : Format) (x y : Float) (s : Bool) (a b c : ℕ) → HasValue x s a c → HasValue y s b c → 0 < c → b < a → sub f x y ≡ round f s (a - b) c
unfolding sub add neg
sub_signed f nan y s a b c h k C l = absurd h
sub_signed f (inf t) y s a b c h k C l = absurd h
sub_signed f (fin t m e) nan s a b c h k C l = absurd k
sub_signed f (fin t m e) (inf u) s a b c h k C l = absurd k
sub_signed f (fin t m e) (fin u n d) s a b c h k C l =
    let v = m * up e * down d in
    let w = n * up d * down e in
    let z = down e * down d in
    let pv : v * c ≡ a * z = over_both (m * up e) a c (down e) (down d) h.1 in
    let pw : w * c ≡ b * z = over_both' (n * up d) b c (down e) (down d) k.1 in
    let Z : 0 < z = mul-pos (down_pos e) (down_pos d) in
    let less : w < v = lt_of_not-le (λ (g : v ≤ w). not-le_of_lt l (order a b v w z c Z (sym pv) (sym pw) g)) in
    ap (λ (q : Bool). sum f q v (not u) w z) h.0
    ∙ ap (λ (q : Bool). sum f s v (not q) w z) k.0
    ∙ less_pick f s v w z less
    ∙ round_same f s (v - w) z (a - b) c Z C (minus_same v w z a b c pv pw (le_of less) (le_of l))
  where
    le_of : {i j : ℕ} → i < j → i ≤ j
    le_of h = omega arith

-- ---- what the nearest multiple of 2 ^ 29 is: nearer than the half, or at the half and even
abbrev Nearer : ℕ → ℕ → Type 0
Nearer m q = (q * 536870912 < m + 268435456) × (m < q * 536870912 + 268435456)

abbrev Halfway : ℕ → ℕ → Type 0
Halfway m q = ((q * 536870912 ≡ m + 268435456) ⊎ (m ≡ q * 536870912 + 268435456)) × (q % 2 ≡ 0)

closest_is : (m q : ℕ) → Nearer m q ⊎ Halfway m q → closest m (2 ^ 29) ≡ q
closest_is m q (inl n) = sym (half_even m 268435456 (lit< tt)) ∙ within (m / 536870912 % 2) (bit (m / 536870912)) n.0 n.1
  where
    bit : (i : ℕ) → i % 2 ≤ 1
    bit i = omega arith

    within : (j : ℕ) → j ≤ 1 → q * 536870912 < m + 268435456 → m < q * 536870912 + 268435456 → (m + 268435455 + j) / 536870912 ≡ q
    within j h l u = div-eq_of_lt-le 536870912 (omega arith) (omega arith)
closest_is m q (inr (inl e, h)) =
    let w : m / 536870912 + 1 ≡ q = omega arith in
    nearest_eq (m / 536870912) (m % 536870912 * 2) 536870912 (omega arith) ∙ omega arith
closest_is m q (inr (inr e, h)) =
    let w : m / 536870912 ≡ q = omega arith in
    nearest_eq (m / 536870912) (m % 536870912 * 2) 536870912 (omega arith) ∙ omega arith

-- the two ways in which a number lies at its nearest multiple; halfway it is even
nearest_multiple : (m q : ℕ) → closest m (2 ^ 29) ≡ q → Nearer m q ⊎ (Halfway m q × (m % 2 ≡ 0))
nearest_multiple m q c = go (split (m % 536870912) 268435456) (split 268435456 (m % 536870912))
  where
    half : (m q : ℕ) → q ≡ m / 536870912 + m / 536870912 % 2 → m % 536870912 ≡ 268435456 → Halfway m q
    half m q e h = elim (split (m / 536870912 % 2) 1) [
      | inl z ↦ (inr (omega arith), omega arith)
      | inr o ↦ (inl (omega arith), omega arith)
    ]

    go : (m % 536870912 < 268435456) ⊎ (268435456 ≤ m % 536870912) → (268435456 < m % 536870912) ⊎ (m % 536870912 ≤ 268435456) → Nearer m q ⊎ (Halfway m q × (m % 2 ≡ 0))
    go (inl l) _ = let e : q ≡ m / 536870912 = sym c ∙ nearest_lt (m / 536870912) (m % 536870912 * 2) 536870912 (omega arith) in inl (omega arith, omega arith)
    go (inr l) (inl g) = let e : q ≡ suc (m / 536870912) = sym c ∙ nearest_gt (m / 536870912) (m % 536870912 * 2) 536870912 (omega arith) in inl (omega arith, omega arith)
    go (inr l) (inr g) =
        let r : m % 536870912 ≡ 268435456 = omega arith in
        let e : q ≡ m / 536870912 + m / 536870912 % 2 = sym c ∙ nearest_eq (m / 536870912) (m % 536870912 * 2) 536870912 (omega arith) in
        inr (half m q e r, omega arith)

-- the product below 2 ^ 82, rounded at 2 ^ 29
kept_all : (M q : ℕ) → closest M (2 ^ 29) ≡ q → closest (M * 536870913) (2 ^ 29) ≡ M + q
kept_all M q c = closest_is (M * 536870913) (M + q) (by (nearest_multiple M q c))
  where
    both : (a b : ℕ) → a % 2 ≡ 0 → b % 2 ≡ 0 → (a + b) % 2 ≡ 0
    both a b h k = omega arith

    by : Nearer M q ⊎ (Halfway M q × (M % 2 ≡ 0)) → Nearer (M * 536870913) (M + q) ⊎ Halfway (M * 536870913) (M + q)
    by (inl n) = inl (omega (arith, n.0), omega (arith, n.1))
    by (inr ((inl e, z), h)) = inr (inl (omega arith), both M q h z)
    by (inr ((inr e, z), h)) = inr (inr (omega arith), both M q h z)

-- what is left of it without M itself
kept_rest : (M q : ℕ) → closest M (2 ^ 29) ≡ q → closest ((M + q) * 536870912 - M) (2 ^ 29) ≡ M
kept_rest M q c = closest_is ((M + q) * 536870912 - M) M (by (nearest_multiple M q c))
  where
    by : Nearer M q ⊎ (Halfway M q × (M % 2 ≡ 0)) → Nearer ((M + q) * 536870912 - M) M ⊎ Halfway ((M + q) * 536870912 - M) M
    by (inl n) = inl (omega (arith, n.0), omega (arith, n.1))
    by (inr ((inl e, z), h)) = inr (inr (omega arith), h)
    by (inr ((inr e, z), h)) = inr (inl (omega arith), h)

-- the product from 2 ^ 82 on, rounded at 2 ^ 30: M is so near to 2 ^ 53 that it goes up there
high : (M : ℕ) → 4835703278458516698824704 ≤ M * 536870913 → 9007199237963777 ≤ M
high M l = omega arith

high_kept : (M : ℕ) → 9007199237963777 ≤ M → M < 9007199254740992 → closest M (2 ^ 29) ≡ 16777216
high_kept M l u = closest_is M 16777216 (inl (omega arith, omega arith))

high_rest : (M P : ℕ) → 9007199237963777 ≤ M → M < 9007199254740992 → 16777216 ≤ P * 2 → closest (P * 2 * 536870912 - M) (2 ^ 29) ≡ P * 2 - 16777216
high_rest M P l u h = closest_is (P * 2 * 536870912 - M) (P * 2 - 16777216) (inl (omega arith, omega arith))

-- ---- p - (p - x), with p = A * 2 ^ 29 of x's last places and B what p - x keeps
turn : (e h : ℕ) → e + (1074 + h) ≡ e + h + 1074
turn e h = omega arith

less_times : (v u c : ℕ) → v * c - u * c ≡ (v - u) * c
less_times v u c = ap₂ (λ (y z : ℕ). y - z) (mul_comm v c) (mul_comm u c) ∙ sym (mul-sub c v u) ∙ mul_comm c (v - u)

at_most : (n : ℕ) → n < 4835703278458516698824704 → closest n (2 ^ 29) ≤ 9007199254740992
at_most n h = le_trans (nearest-le (n / 2 ^ 29) (compare (n % 2 ^ 29 * 2) (2 ^ 29))) ((div-lt_iff_lt-mul (pow_pos 29)).1 (lt_of_lt_of_le h (lit≤ tt)))

module _ (x p : Float) (s : Bool) (M e A B q : ℕ) (X : HasValue x s (M * 2 ^ e) (2 ^ 1074)) (P : HasValue p s (A * 2 ^ (e + 29)) (2 ^ 1074)) (room : e ≤ 1900)
    (a : A ≡ B + q) (b : closest (A * 536870912 - M) (2 ^ 29) ≡ B) (some : 0 < q) (few : q ≤ 16777216) (lo : 2417851639229258349412352 ≤ A * 536870912 - M) (hi : A * 536870912 - M < 4835703278458516698824704) where
  finer_p : HasValue p s (A * 536870912 * 2 ^ e) (2 ^ 1074)
  finer_p = subst (λ (z : ℕ). HasValue p s z (2 ^ 1074)) (ap (λ (z : ℕ). A * z) (pow-add 2 e 29 ∙ mul_comm (2 ^ e) (2 ^ 29)) ∙ sym (mul_assoc A 536870912 (2 ^ e))) P

  small : e + 29 ≤ 2000
  small = omega (arith, room)

  B-le : B ≤ 9007199254740992
  B-le = subst (λ (z : ℕ). z ≤ 9007199254740992) b (at_most (A * 536870912 - M) hi)

  rest_is : sub binary64 p x ≡ units binary64 s B (e + 29)
  rest_is =
      sub_signed binary64 p x s (A * 536870912 * 2 ^ e) (M * 2 ^ e) (2 ^ 1074) finer_p X (pow_pos 1074) (mul-lt-mul_of_pos_right more (pow_pos e))
      ∙ ap (λ (z : ℕ). round binary64 s z (2 ^ 1074)) (less_times (A * 536870912) M (2 ^ e))
      ∙ round_dyadic binary64 s (A * 536870912 - M) e 1074 (e + 29) 29 (turn e 29) (lt_of_lt_of_le hi (lit≤ tt)) (inr (le_trans (lit≤ tt) lo))
      ∙ ap (λ (z : ℕ). units binary64 s z (e + 29)) b
    where
      more : M < A * 536870912
      more = omega (arith, lo)

  pub split_off : HasValue (sub binary64 p (sub binary64 p x)) s (q * 2 ^ (e + 29)) (2 ^ 1074)
  split_off =
      let r = sub binary64 p x in
      let R : HasValue r s (B * 2 ^ (e + 29)) (2 ^ 1074) = subst (λ (z : Float). HasValue z s (B * 2 ^ (e + 29)) (2 ^ 1074)) (sym rest_is) (units_val binary64 s B (e + 29) (below_top B (e + 29) B-le small)) in
      let more : B < A = omega arith in
      let left : A - B ≡ q = omega arith in
      subst (λ (z : Float). HasValue z s (q * 2 ^ (e + 29)) (2 ^ 1074))
      (sym (sub_signed binary64 p r s (A * 2 ^ (e + 29)) (B * 2 ^ (e + 29)) (2 ^ 1074) P R (pow_pos 1074) (mul-lt-mul_of_pos_right more (pow_pos (e + 29)))
      ∙ ap (λ (z : ℕ). round binary64 s z (2 ^ 1074)) (less_times A B (2 ^ (e + 29)) ∙ ap (λ (z : ℕ). z * 2 ^ (e + 29)) left)))
      (round_exact binary64 s (q * 2 ^ (e + 29)) (2 ^ 1074) q (e + 29) (pow_pos 1074) (lt_of_le_of_lt few (lit< tt)) (below_top q (e + 29) (le_trans few (lit≤ tt)) small) refl)

-- ---- the whole, for x = M * 2 ^ e of binary64's smallest values
at_thirty : (m P : ℕ) → closest m (2 ^ 30) ≡ P → (P * 1073741824 ≤ m + 536870912) × (m ≤ P * 1073741824 + 536870912)
at_thirty m P c = let e : (m + 536870911 + m / 1073741824 % 2) / 1073741824 ≡ P = half_even m 536870912 (lit< tt) ∙ c in (omega arith, omega arith)

module _ (x c : Float) (s : Bool) (M e : ℕ) (X : HasValue x s (M * 2 ^ e) (2 ^ 1074)) (C : HasValue c false 536870913 1) (l : 4503599627370496 ≤ M) (u : M < 9007199254740992) (room : e ≤ 1900) where
  abbrev Q : ℕ
  Q = closest M (2 ^ 29)

  abbrev p : Float
  p = mul binary64 x c

  product : p ≡ round binary64 s (M * 536870913 * 2 ^ e) (2 ^ 1074)
  product = mul_signed binary64 x c s (M * 2 ^ e) (2 ^ 1074) 536870913 1 X C (pow_pos 1074) (lit< tt) ∙ ap (λ (z : ℕ). round binary64 s z (2 ^ 1074)) (mul_right_comm M (2 ^ e) 536870913)

  Q-ge : 8388608 ≤ Q
  Q-ge = kept_ge M l

  Q-le : Q ≤ 16777216
  Q-le = kept_le M 29 (lt_of_lt_of_le u (lit≤ tt))

  short : M * 536870913 < 4835703278458516698824704 → HasValue (sub binary64 p (sub binary64 p x)) s (Q * 2 ^ (e + 29)) (2 ^ 1074)
  short h =
      let is : p ≡ units binary64 s (M + Q) (e + 29) = product ∙ round_dyadic binary64 s (M * 536870913) e 1074 (e + 29) 29 (turn e 29) (lt_of_lt_of_le h (lit≤ tt)) (inr (le_trans (lit≤ tt) (at_least M l))) ∙ ap (λ (z : ℕ). units binary64 s z (e + 29)) (kept_all M Q refl) in
      let P : HasValue p s ((M + Q) * 2 ^ (e + 29)) (2 ^ 1074) = subst (λ (z : Float). HasValue z s ((M + Q) * 2 ^ (e + 29)) (2 ^ 1074)) (sym is) (units_val binary64 s (M + Q) (e + 29) (below_top (M + Q) (e + 29) (subst (λ (z : ℕ). z ≤ 9007199254740992) (kept_all M Q refl) (at_most (M * 536870913) h)) (omega (arith, room)))) in
      split_off x p s M e (M + Q) M Q X P room refl (kept_rest M Q refl) (lt_of_lt_of_le (lit< tt) Q-ge) Q-le (low M Q l Q-ge) (top M Q u (nearest_multiple M Q refl))
    where
      at_least : (M : ℕ) → 4503599627370496 ≤ M → 2417851639229258349412352 ≤ M * 536870913
      at_least M l = omega arith

      low : (M q : ℕ) → 4503599627370496 ≤ M → 8388608 ≤ q → 2417851639229258349412352 ≤ (M + q) * 536870912 - M
      low M q l h = omega arith

      top : (M q : ℕ) → M < 9007199254740992 → Nearer M q ⊎ (Halfway M q × (M % 2 ≡ 0)) → (M + q) * 536870912 - M < 4835703278458516698824704
      top M q u (inl n) = omega (arith, n.0)
      top M q u (inr ((inl h, z), w)) = omega arith
      top M q u (inr ((inr h, z), w)) = omega arith

  long : 4835703278458516698824704 ≤ M * 536870913 → HasValue (sub binary64 p (sub binary64 p x)) s (Q * 2 ^ (e + 29)) (2 ^ 1074)
  long h =
      let N = closest (M * 536870913) (2 ^ 30) in
      let b = at_thirty (M * 536870913) N refl in
      let near : 9007199237963777 ≤ M = high M h in
      let is : p ≡ units binary64 s N (e + 30) = product ∙ round_dyadic binary64 s (M * 536870913) e 1074 (e + 30) 30 (turn e 30) (lt_of_lt_of_le (under M u) (lit≤ tt)) (inr (le_trans (lit≤ tt) h)) in
      let few : N ≤ 4503599635759103 = many M N u b.0 in
      let v : HasValue p s (N * 2 ^ (e + 30)) (2 ^ 1074) = subst (λ (z : Float). HasValue z s (N * 2 ^ (e + 30)) (2 ^ 1074)) (sym is) (units_val binary64 s N (e + 30) (below_top N (e + 30) (le_trans few (lit≤ tt)) (omega (arith, room)))) in
      let P : HasValue p s (N * 2 * 2 ^ (e + 29)) (2 ^ 1074) = subst (λ (z : ℕ). HasValue p s z (2 ^ 1074)) (ap (λ (z : ℕ). N * z) (ap (λ (z : ℕ). 2 ^ z) (next e) ∙ pow-succ' 2 (e + 29)) ∙ sym (mul_assoc N 2 (2 ^ (e + 29)))) v in
      subst (λ (z : ℕ). HasValue (sub binary64 p (sub binary64 p x)) s (z * 2 ^ (e + 29)) (2 ^ 1074)) (sym (high_kept M near u))
      (split_off x p s M e (N * 2) (N * 2 - 16777216) 16777216 X P room (back N (least M N h b.1)) (high_rest M N near u (least M N h b.1)) (lit< tt) (lit≤ tt) (low M N u h b.1) (top M N near few))
    where
      next : (e : ℕ) → e + 30 ≡ suc (e + 29)
      next e = omega arith

      under : (M : ℕ) → M < 9007199254740992 → M * 536870913 < 9671406556917033397649408
      under M u = omega arith

      many : (M N : ℕ) → M < 9007199254740992 → N * 1073741824 ≤ M * 536870913 + 536870912 → N ≤ 4503599635759103
      many M N u h = omega arith

      least : (M N : ℕ) → 4835703278458516698824704 ≤ M * 536870913 → M * 536870913 ≤ N * 1073741824 + 536870912 → 16777216 ≤ N * 2
      least M N h k = omega arith

      back : (N : ℕ) → 16777216 ≤ N * 2 → N * 2 ≡ N * 2 - 16777216 + 16777216
      back N h = omega arith

      low : (M N : ℕ) → M < 9007199254740992 → 4835703278458516698824704 ≤ M * 536870913 → M * 536870913 ≤ N * 1073741824 + 536870912 → 2417851639229258349412352 ≤ N * 2 * 536870912 - M
      low M N u h k = omega arith

      top : (M N : ℕ) → 9007199237963777 ≤ M → N ≤ 4503599635759103 → N * 2 * 536870912 - M < 4835703278458516698824704
      top M N l h = omega arith

  pub split_value : HasValue (sub binary64 p (sub binary64 p x)) s (Q * 2 ^ (e + 29)) (2 ^ 1074)
  split_value = elim (split (M * 536870913) 4835703278458516698824704) [
    | inl h ↦ short h
    | inr h ↦ long h
  ]
