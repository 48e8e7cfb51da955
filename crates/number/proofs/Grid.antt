-- The values of a format in units of its smallest: every finite one is a count of them with a sign, that count is a
-- whole number of p digits times a power of two, and none lies between two neighbours. Assumes nothing.
use Rattle.std.proofs.Common.{◌≡◌, ℕ, zero, suc, ◌+◌, ◌-◌, ◌*◌, ◌%◌, ◌^◌, ◌<◌, ◌≤◌, Bool, ◌&&◌, T, eqb, ltb, leb, ◌⊎◌, ℤ, pos, negsuc, sym, refl, ap, ◌∙◌, subst, inl, inr, le_trans, le_of_eq, lt_of_lt_of_le, le_of_suc-le-suc, lt_of_le_of_lt, le_of_lt, lt_irrefl, mul-le-mul_right, mul_assoc, lt_of_mul-lt-mul_right, mul-lt-mul_of_pos_right, lt_of_not-le, zero-mul, mul-one, mul_right_comm, not-le_of_lt, add-one, arith, ltb→lt, leb→le, pow_pos, pow_mono, pow-add, shl_lt}
use native.Mathlib.Nat.{eq_of_mul-eq-mul_right}
use lib.Pow.{pow-lt}
use lib.Ieee.{Float, nan, inf, fin, Format, prec, emax, low, up, down, fits}
use lib.Ieee.Fits.{and_l, and_r, down_pos}
use lib.Ieee.Exact.{HasValue}
use lib.Ieee.Scale.{finite}
use Rattle.number.proofs.Pack.{split}

-- 2 ^ k is taken out of 2 ^ i, for a k up to i
power_out : (a i k : ℕ) → k ≤ i → a * 2 ^ i ≡ a * 2 ^ (i - k) * 2 ^ k
power_out a i k l =
    ap (λ (x : ℕ). a * x) (ap (λ (x : ℕ). 2 ^ x) (sym (back i k l)) ∙ pow-add 2 (i - k) k)
    ∙ sym (mul_assoc a (2 ^ (i - k)) (2 ^ k))
  where
    back : (i k : ℕ) → k ≤ i → i - k + k ≡ i
    back i k l = omega arith

-- ---- no value of p digits lies strictly between q and q + 1 units of 2 ^ k, for a q of p digits
pub no_gap : (p q k a i : ℕ) → 2 ≤ p → 2 ^ (p - 1) ≤ q → a < 2 ^ p → q * 2 ^ k < a * 2 ^ i → (q + 1) * 2 ^ k ≤ a * 2 ^ i
no_gap p q k a i P Q A h = go (split i k)
  where
    go : (i < k) ⊎ (k ≤ i) → (q + 1) * 2 ^ k ≤ a * 2 ^ i
    go (inl l) = absurd (not-le_of_lt h (le_of_lt (lt_of_lt_of_le (shl_lt p i A) reached)))
      where
        fewer : (p i k : ℕ) → 2 ≤ p → i < k → p + i ≤ p - 1 + k
        fewer p i k P l = omega arith

        reached : 2 ^ (p + i) ≤ q * 2 ^ k
        reached =
            le_trans (pow_mono (fewer p i k P l))
            (le_trans (le_of_eq (pow-add 2 (p - 1) k)) (mul-le-mul_right (2 ^ k) Q))
    go (inr l) = le_trans (mul-le-mul_right (2 ^ k) (le_trans (le_of_eq (add-one q)) more)) (le_of_eq (sym e))
      where
        e : a * 2 ^ i ≡ a * 2 ^ (i - k) * 2 ^ k
        e = power_out a i k l

        more : q < a * 2 ^ (i - k)
        more =
            lt_of_not-le
            (λ (g : a * 2 ^ (i - k) ≤ q). not-le_of_lt h (le_trans (le_of_eq e) (mul-le-mul_right (2 ^ k) g)))

-- ---- the values of a format, in units
-- m * 2 ^ e is m * 2 ^ j units
place : (l : ℕ) (e : ℤ) → down e ≤ 2 ^ l → (j : ℕ) × ((m : ℕ) → m * up e * 2 ^ l ≡ m * 2 ^ j * down e)
place l (pos a) h = (
  a + l,
  λ m.
      mul_assoc m (2 ^ a) (2 ^ l) ∙ ap (λ (x : ℕ). m * x) (sym (pow-add 2 a l)) ∙ sym (mul-one (m * 2 ^ (a + l))),
)
place l (negsuc a) h = (l - suc a, λ m. ap (λ (x : ℕ). x * 2 ^ l) (mul-one m) ∙ power_out m l (suc a) within)
  where
    within : suc a ≤ l
    within = le_of_suc-le-suc (lt_of_not-le (λ (g : suc l ≤ suc a). lt_irrefl (2 ^ l) (lt_of_lt_of_le (pow-lt g) h)))

-- what `fits` says of a value that is not zero
pub record Held (f : Format) (m : ℕ) (e : ℤ) : Type 0 where
  pub digits : m < 2 ^ prec f
  pub least : down e ≤ 2 ^ low f
  pub most : m * up e < 2 ^ suc (emax f) * down e

held : (f : Format) (s : Bool) (m : ℕ) (e : ℤ) → T (fits f (fin s (suc m) e)) → Held f (suc m) e
unfolding fits
held f s m e h =
    let A = eqb (suc m % 2) 1 in
    let B = ltb (suc m) (2 ^ prec f) in
    let C = leb (down e) (2 ^ low f) in
    let D = ltb (suc m * up e) (2 ^ suc (emax f) * down e) in
    record {
      digits = ltb→lt (suc m) (2 ^ prec f) (and_r A B (and_l (A && B) C (and_l (A && B && C) D h)));
      least = leb→le (down e) (2 ^ low f) (and_r (A && B) C (and_l (A && B && C) D h));
      most = ltb→lt (suc m * up e) (2 ^ suc (emax f) * down e) (and_r (A && B && C) D h);
    }

abbrev pub OnGrid : Format → ℕ → Type 0
OnGrid f w = (a : ℕ) × (i : ℕ) × (a < 2 ^ prec f) × (w ≡ a * 2 ^ i)

cancel : (e : ℤ) (a b : ℕ) → a * down e ≡ b * down e → a ≡ b
cancel e a b h = eq_of_mul-eq-mul_right (down e) (down_pos e) a b h

zero_is : (e : ℤ) (c : ℕ) → zero * up e * c ≡ 0 * down e
zero_is e c = ap (λ (x : ℕ). x * c) (zero-mul (up e)) ∙ zero-mul c ∙ sym (zero-mul (down e))

no_units : (e : ℤ) (w c : ℕ) → zero * up e * c ≡ w * down e → w ≡ 0
no_units e w c h = cancel e w 0 (sym h ∙ zero_is e c)

pub on_grid : (f : Format) (t : Bool) (y : Float) (w : ℕ) → T (fits f y) → HasValue y t w (2 ^ low f) → OnGrid f w
on_grid f t nan w F h = absurd h
on_grid f t (inf s) w F h = absurd h
on_grid f t (fin s zero e) w F h = (0, 0, pow_pos (prec f), no_units e w (2 ^ low f) h.1)
on_grid f t (fin s (suc m) e) w F h =
    let H = held f s m e F in
    let p = place (low f) e H.least in
    (suc m, p.0, H.digits, cancel e w (suc m * 2 ^ p.0) (sym h.1 ∙ p.1 (suc m)))

-- below the overflow
pub bounded : (f : Format) (t : Bool) (y : Float) (w : ℕ) → T (fits f y) → HasValue y t w (2 ^ low f)
    → w < 2 ^ (suc (emax f) + low f)
bounded f t nan w F h = absurd h
bounded f t (inf s) w F h = absurd h
bounded f t (fin s zero e) w F h =
    let z : w ≡ 0 = no_units e w (2 ^ low f) h.1 in
    subst (λ (x : ℕ). x < 2 ^ (suc (emax f) + low f)) (sym z) (pow_pos (suc (emax f) + low f))
bounded f t (fin s (suc m) e) w F h =
    let top = 2 ^ suc (emax f) in
    let unit = 2 ^ low f in
    let under : suc m * up e * unit < top * down e * unit =
    mul-lt-mul_of_pos_right (held f s m e F).most (pow_pos (low f)) in
    let H : w * down e < top * unit * down e =
    lt_of_le_of_lt (le_of_eq (sym h.1)) (lt_of_lt_of_le under (le_of_eq (mul_right_comm top (down e) unit))) in
    lt_of_lt_of_le (lt_of_mul-lt-mul_right (down e) H) (le_of_eq (sym (pow-add 2 (suc (emax f)) (low f))))

-- ---- every finite value is a count of the smallest, with its sign
pub counted : (f : Format) (y : Float) → T (fits f y) → T (finite y) → (t : Bool) × (w : ℕ) × HasValue y t w (2 ^ low f)
counted f nan F h = absurd h
counted f (inf s) F h = absurd h
counted f (fin s zero e) F h = (s, 0, (refl, zero_is e (2 ^ low f)))
counted f (fin s (suc m) e) F h =
    let p = place (low f) e (held f s m e F).least in
    (s, suc m * 2 ^ p.0, (refl, p.1 (suc m)))

-- what has a value is finite
pub is_finite : (r : Float) (s : Bool) (v c : ℕ) → HasValue r s v c → T (finite r)
is_finite nan s v c h = h
is_finite (inf t) s v c h = h
is_finite (fin t m e) s v c h = tt

-- and a value has one count only; of any two fractions that it is, v / c and w / d, too
pub one_sign : (y : Float) (s t : Bool) (v w c d : ℕ) → HasValue y s v c → HasValue y t w d → s ≡ t
one_sign nan s t v w c d h k = absurd h
one_sign (inf u) s t v w c d h k = absurd h
one_sign (fin u m e) s t v w c d h k = sym h.0 ∙ k.0

pub one_fraction : (y : Float) (s t : Bool) (v w c d : ℕ) → HasValue y s v c → HasValue y t w d → v * d ≡ w * c
one_fraction nan s t v w c d h k = absurd h
one_fraction (inf u) s t v w c d h k = absurd h
one_fraction (fin u m e) s t v w c d h k =
    cancel e (v * d) (w * c)
    (mul_right_comm v d (down e)
    ∙ ap (λ (x : ℕ). x * d) (sym h.1)
    ∙ mul_right_comm (m * up e) c d
    ∙ ap (λ (x : ℕ). x * c) k.1
    ∙ mul_right_comm w (down e) c)

pub one_count : (y : Float) (s t : Bool) (v w c : ℕ) → HasValue y s v c → HasValue y t w c → v ≡ w
one_count nan s t v w c h k = absurd h
one_count (inf u) s t v w c h k = absurd h
one_count (fin u m e) s t v w c h k = cancel e v w (sym h.1 ∙ k.1)
