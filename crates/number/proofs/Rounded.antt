-- Rounding without the method, for either format and any number ±a / c: `round` is the value that `RoundsTo` describes,
-- and no second value of the format is. Every operation that ends in `round` can cite it. Assumes nothing.
use Rattle.std.proofs.Common.{◌≡◌, ℕ, suc, ◌+◌, ◌*◌, ◌%◌, ◌^◌, ◌<◌, ◌≤◌, Bool, true, false, T, ◌⊎◌, sym, refl, ap, ◌∙◌, subst, inl, inr, le_of_lt, suc-mul, le_antisymm, arith}
use native.Mathlib.Nat.{eq_of_mul-eq-mul_right}
use lib.Ieee.{Float, inf, Format, prec, low, round, fits, hid, to_bits}
use lib.Ieee.Fits.{round_is, round-fits}
use lib.Ieee.Exact.{HasValue, units_val}
use lib.Ieee.Scale.{finite}
use Rattle.number.specs.Nearest.{apart, distance, too_large, Preferred, PreferredTo, NearestTo, RoundsTo}
use Rattle.number.proofs.Pack.{split, units_over}
use Rattle.number.proofs.Adding.{same_value}
use Rattle.number.proofs.Grid.{on_grid, counted, is_finite, one_sign, one_count}
use Rattle.number.proofs.LastDigit.{parity}
use Rattle.number.proofs.Middle.{gap, OddOne, Wins, wins, wins_across}
use Rattle.number.proofs.Placed.{spot, dropped, unit, whole, chosen, unit_pos, below, above, lies}
use Rattle.number.proofs.Placed.{digits, leading, keeps, chosen_le, chosen_leading}
use Rattle.number.proofs.Overflow.{small_enough, large_enough}

-- ---- distances, of one sign and of two
apart_same : (s : Bool) (a b : ℕ) → apart s a s b ≡ gap a b
apart_same true a b = refl
apart_same false a b = refl

sides : (s t : Bool) → (t ≡ s) ⊎ ((a b : ℕ) → apart s a t b ≡ a + b)
sides true true = inl refl
sides true false = inr (λ a b. refl)
sides false true = inr (λ a b. refl)
sides false false = inl refl

-- ---- The number is n / c smallest values; the result r is v = m * 2 ^ k of them, and the lower neighbour q * 2 ^ k.
module _ (f : Format) (s : Bool) (a c : ℕ) (C : 0 < c) where
  abbrev n : ℕ
  n = a * 2 ^ low f

  abbrev k : ℕ
  k = dropped f n c

  abbrev u : ℕ
  u = unit f n c

  abbrev q : ℕ
  q = whole f n c

  abbrev m : ℕ
  m = chosen f n c

  abbrev v : ℕ
  v = m * 2 ^ k

  abbrev r : Float
  r = round f s a c

  abbrev near : ℕ
  near = distance f s a c s v

  abbrev far : Bool → ℕ → ℕ
  far t w = distance f s a c t w

  fine : T (fits f r)
  fine = round-fits f s a c

  at_m : gap n (m * u) ≡ near
  at_m = ap (gap n) (sym (spot m k c)) ∙ sym (apart_same s n (v * c))

  -- ---- from the overflow on
  overflows : too_large f * c ≤ a → r ≡ inf s
  overflows h = round_is f s a c ∙ units_over f s m k (large_enough f a c C h)

  -- ---- below it
  module _ (small : a < too_large f * c) where
    value : HasValue r s v (2 ^ low f)
    value =
        subst (λ (x : Float). HasValue x s v (2 ^ low f)) (sym (round_is f s a c))
        (units_val f s m k (small_enough f a c C small))

    last_digit : to_bits f r % 2 ≡ m % 2
    last_digit = parity f s r m k value (chosen_le f n c) (chosen_leading f n c)

    -- r is v smallest values, and no other value of the format is
    is_r : (y : Float) (w : ℕ) → T (fits f y) → HasValue y s w (2 ^ low f) → w ≡ v → y ≡ r
    is_r y w F H e = same_value f s y r v F fine (subst (λ (x : ℕ). HasValue y s x (2 ^ low f)) e H) value

    -- a value of the number's sign is further off, or equally far and odd
    abbrev Beside : Float → ℕ → Type 0
    Beside y w = (near < far s w) ⊎ ((near ≡ far s w) × (to_bits f r % 2 ≡ 0) × (to_bits f y % 2 ≡ 1))

    beside : (y : Float) (w : ℕ) → T (fits f y) → HasValue y s w (2 ^ low f) → (w ≡ v → ⊥) → Beside y w
    beside y w F H d =
        let L = lies f n c C w (on_grid f s y w F H) in
        go (wins n u q m (w * c) (below f n c) (above f n c C) (keeps f n c) L not_m)
      where
        cancel : (i : ℕ) → w * c ≡ i * u → w ≡ i * 2 ^ k
        cancel i g = eq_of_mul-eq-mul_right c C w (i * 2 ^ k) (g ∙ sym (spot i k c))

        not_m : w * c ≡ m * u → ⊥
        not_m g = d (cancel m g)

        at_w : gap n (w * c) ≡ far s w
        at_w = sym (apart_same s n (w * c))

        -- the last digit of y, where it is i units
        digit : (i : ℕ) → w * c ≡ i * u → i ≤ 2 ^ prec f → (k ≡ 0) ⊎ (hid f ≤ i) → to_bits f y % 2 ≡ i % 2
        digit i g = parity f s y i k (subst (λ (x : ℕ). HasValue y s x (2 ^ low f)) (cancel i g) H)

        more : (i j : ℕ) → i ≤ j → i ≤ suc j
        more i j h = omega arith

        up_one : (k ≡ 0) ⊎ (hid f ≤ q) → (k ≡ 0) ⊎ (hid f ≤ suc q)
        up_one (inl z) = inl z
        up_one (inr l) = inr (more (hid f) q l)

        odd : OddOne q (q * u) u (w * c) → to_bits f y % 2 ≡ 1
        odd (inl (e, z)) = digit q e (le_of_lt (digits f n c)) (leading f n c) ∙ z
        odd (inr (e, z)) = digit (suc q) (e ∙ sym (suc-mul q u)) (digits f n c) (up_one (leading f n c)) ∙ z

        go : Wins n u q (q * u) m (m * u) (w * c) → Beside y w
        go (inl l) = inl (subst (λ (x : ℕ). x < far s w) at_m (subst (λ (x : ℕ). gap n (m * u) < x) at_w l))
        go (inr (e, z, o)) = inr (sym at_m ∙ e ∙ at_w, last_digit ∙ z, odd o)

    -- a value of the other sign
    across : (t : Bool) (w : ℕ) → ((a b : ℕ) → apart s a t b ≡ a + b) → Preferred near (far t w) (to_bits f r)
    across t w e = go (wins_across n u q m (w * c) (below f n c) (above f n c C) (unit_pos f n c C) (keeps f n c))
      where
        go : Preferred (gap n (m * u)) (n + w * c) m → Preferred near (far t w) (to_bits f r)
        go (inl l) =
            inl
            (subst (λ (x : ℕ). x < far t w) at_m (subst (λ (x : ℕ). gap n (m * u) < x) (sym (e n (w * c))) l))
        go (inr (i, z)) = inr (sym at_m ∙ i ∙ sym (e n (w * c)), last_digit ∙ z)

    preferred : (y : Float) → T (fits f y) → T (finite y) → (y ≡ r → ⊥) → PreferredTo f s a c r v y
    preferred y F I d = let Y = counted f y F I in (Y.0, Y.1, Y.2, go Y.0 Y.1 Y.2 (sides s Y.0))
      where
        even : (w : ℕ) → Beside y w → Preferred near (far s w) (to_bits f r)
        even w (inl l) = inl l
        even w (inr (i, z, o)) = inr (i, z)

        go : (t : Bool) (w : ℕ) → HasValue y t w (2 ^ low f) → (t ≡ s) ⊎ ((a b : ℕ) → apart s a t b ≡ a + b)
            → Preferred near (far t w) (to_bits f r)
        go t w H (inl e) =
            let H' : HasValue y s w (2 ^ low f) = subst (λ (z : Bool). HasValue y z w (2 ^ low f)) e H in
            subst (λ (z : Bool). Preferred near (far z w) (to_bits f r)) (sym e)
            (even w (beside y w F H' (λ (g : w ≡ v). d (is_r y w F H' g))))
        go t w H (inr e) = across t w e

    nearest_of_all : NearestTo f s a c r
    nearest_of_all = (v, value, preferred)

    -- ---- and there is no second one
    only_near : (y : Float) → T (fits f y) → NearestTo f s a c y → y ≡ r
    only_near y F (w, H, all) = go (split w v) (split v w)
      where
        clash : (i j x y : ℕ) → (i < j) ⊎ ((i ≡ j) × (x ≡ 0) × (y ≡ 1)) → (j < i) ⊎ ((j ≡ i) × (y ≡ 0)) → ⊥
        clash i j x y (inl l) (inl g) = omega arith
        clash i j x y (inl l) (inr (g, z)) = omega arith
        clash i j x y (inr (l, o, z)) (inl g) = omega arith
        clash i j x y (inr (l, o, z)) (inr (g, e)) = omega arith

        -- y would be preferred to r
        other : (w ≡ v → ⊥) → Preferred (far s w) near (to_bits f y)
        other d =
            let not-y : r ≡ y → ⊥ =
            λ g. d (one_count y s s w v (2 ^ low f) H (subst (λ (x : Float). HasValue x s v (2 ^ low f)) g value)) in
            let R = all r fine (is_finite r s v (2 ^ low f) value) not-y in
            let e : R.0 ≡ s = one_sign r R.0 s R.1 v (2 ^ low f) (2 ^ low f) R.2 value in
            let i : R.1 ≡ v = one_count r R.0 s R.1 v (2 ^ low f) R.2 value in
            subst (λ (i : ℕ). Preferred (far s w) (far s i) (to_bits f y)) i
            (subst (λ (t : Bool). Preferred (far s w) (far t R.1) (to_bits f y)) e R.3)

        off : (w ≡ v → ⊥) → ⊥
        off d = clash near (far s w) (to_bits f r % 2) (to_bits f y % 2) (beside y w F H d) (other d)

        less : (i j : ℕ) → i < j → i ≡ j → ⊥
        less i j l e = omega arith

        more : (i j : ℕ) → i < j → j ≡ i → ⊥
        more i j l e = omega arith

        go : (w < v) ⊎ (v ≤ w) → (v < w) ⊎ (w ≤ v) → y ≡ r
        go (inl l) o = absurd (off (less w v l))
        go (inr l) (inl g) = absurd (off (more v w g))
        go (inr l) (inr g) = is_r y w F H (le_antisymm g l)

  only_rounded : (y : Float) → T (fits f y) → RoundsTo f s a c y → y ≡ r
  only_rounded y F R = go (split a (too_large f * c))
    where
      go : (a < too_large f * c) ⊎ (too_large f * c ≤ a) → y ≡ r
      go (inl h) = only_near h y F (R.0 h)
      go (inr h) = R.1 h ∙ sym (overflows h)

-- ---- `round` gives a value of the format, the one that `RoundsTo` describes, and no second one is so
pub round_told : (f : Format) (s : Bool) (a c : ℕ) → 0 < c
    → T (fits f (round f s a c)) × RoundsTo f s a c (round f s a c)
    × ((y : Float) → T (fits f y) → RoundsTo f s a c y → y ≡ round f s a c)
round_told f s a c C =
    (round-fits f s a c, (nearest_of_all f s a c C, overflows f s a c C), only_rounded f s a c C)
