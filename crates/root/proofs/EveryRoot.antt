-- The square root without the method, for either format and every x that the format holds: `rooted` is a value of the
-- format, the one that `RootOf` describes, and no second value is. So above zero every other finite value lies further
-- from the exact root. Assumes nothing.
use mathlib.Core.Path.{◌≡◌, refl, sym, ap, ◌∙◌, subst}
use mathlib.Core.Logic.{◌⊎◌, inl, inr}
use Prim.Native.Nat.{ℕ, zero, suc, ◌+◌, ◌-◌, ◌*◌, ◌^◌, ◌≤◌, ◌<◌}
use native.Mathlib.Nat.{le_trans, le_of_eq, le_antisymm, lt_of_le_of_lt, add_comm, zero-lt-suc, zero-mul, one-mul}
use native.Mathlib.Nat.{mul-le-mul_right, mul-lt-mul_of_pos_right, mul-pos, mul_assoc, mul_right_comm}
use native.Mathlib.Omega.{arith}
use mathlib.Core.Bool.{Bool, true, false}
use lib.Dec.{T}
use lib.Pow.{pow-add, pow_pos}
use lib.Ieee.{Float, nan, inf, fin, Format, prec, emax, low, up, down, fits}
use lib.Ieee.Fits.{nan-fits, up_pos, down_pos}
use lib.Ieee.Exact.{HasValue}
use lib.Ieee.Positive.{first_pos}
use Rattle.number.proofs.Pack.{split, pow_lt_back}
use Rattle.number.proofs.Adding.{same_value}
use Rattle.number.proofs.Grid.{on_grid, bounded, counted, is_finite, one_sign, one_count, one_fraction}
use Rattle.root.specs.Root.{rooted, nearest_root}
use Rattle.root.specs.EveryRoot.{UnderHalf, OverHalf, NearerToRoot, NearerThan, NearestToRoot, RootOf}
use Rattle.root.proofs.Fits.{rooted_fits}
use Rattle.root.proofs.Squares.{sq_mono}
use Rattle.root.proofs.Sides.{OnSideOf}
use Rattle.root.proofs.Near.{NearestAbove, nearest_at}
use Rattle.root.proofs.Value.{rooted_val}

-- ---- x is X smallest values, 2 ^ -low each, so √x is √(X * 2 ^ low) of them
pub above_zero : (f : Format) (x : Float) (X : ℕ) → T (fits f x) → HasValue x false X (2 ^ low f) → 0 < X
    → NearestAbove f (X * 2 ^ low f) (rooted f x)
above_zero f x X F H P =
    let (a, i, D, g) = on_grid f false x X F H in
    let e : X * 2 ^ low f ≡ a * 2 ^ (i + low f) =
    ap (λ (w : ℕ). w * 2 ^ low f) g
    ∙ mul_assoc a (2 ^ i) (2 ^ low f)
    ∙ ap (λ (w : ℕ). a * w) (sym (pow-add 2 i (low f))) in
    let A : 0 < a = first_pos a (2 ^ i) (subst (λ (w : ℕ). 0 < w) g P) in
    let at_least : 2 ^ i ≤ X =
    le_trans (le_of_eq (sym (one-mul (2 ^ i)))) (le_trans (mul-le-mul_right (2 ^ i) A) (le_of_eq (sym g))) in
    let I : i < suc (emax f) + low f =
    pow_lt_back i (suc (emax f) + low f) (lt_of_le_of_lt at_least (bounded f false x X F H)) in
    subst (λ (r : Float). NearestAbove f (X * 2 ^ low f) r) (sym (rooted_val f x X P H))
    (subst (λ (n : ℕ). NearestAbove f n (nearest_root f n)) (sym e) (nearest_at f a i A D I))

-- ---- the nearest of all finite values, for an x that is a / c
module _ (f : Format) (x : Float) (a c : ℕ) (F : T (fits f x)) (C : 0 < c) (A : 0 < a) (H : HasValue x false a c) where
  abbrev unit : ℕ
  unit = 2 ^ low f

  abbrev r : Float
  r = rooted f x

  -- x is X.0 smallest values, so √x is √n of them
  X : (w : ℕ) × HasValue x false w unit
  X =
      let (t, w, W) = counted f x F (is_finite x false a c H) in
      (w, subst (λ (t : Bool). HasValue x t w unit) (one_sign x t false w a unit c W H) W)

  abbrev n : ℕ
  n = X.0 * unit

  same : X.0 * c ≡ a * unit
  same = one_fraction x false false X.0 a unit c X.1 H

  best : NearestAbove f n r
  best = above_zero f x X.0 F X.1 (first_pos X.0 c parts)
    where
      parts : 0 < X.0 * c
      parts = subst (λ (w : ℕ). 0 < w) (sym same) (mul-pos A (pow_pos (low f)))

  abbrev v : ℕ
  v = best.0

  in_parts : 4 * n * c ≡ 4 * (a * unit * unit)
  in_parts =
      mul_assoc 4 n c
      ∙ ap (λ (w : ℕ). 4 * w) (mul_right_comm X.0 unit c ∙ ap (λ (w : ℕ). w * unit) same)

  under : (d : ℕ) → 4 * n < d * d → UnderHalf f a c d
  under d h = subst (λ (w : ℕ). w < d * d * c) in_parts (mul-lt-mul_of_pos_right h C)

  over : (d : ℕ) → d * d < 4 * n → OverHalf f a c d
  over d h = subst (λ (w : ℕ). d * d * c < w) in_parts (mul-lt-mul_of_pos_right h C)

  nearer : (t : Bool) (y : Float) (w : ℕ) → T (fits f y) → (y ≡ r → ⊥) → HasValue y t w unit → NearerToRoot f a c v t w
  nearer false y w Y d h = go (split v w) (split w v)
    where
      on_side : OnSideOf n v w
      on_side = best.3 w (on_grid f false y w Y h)

      is_r : v ≡ w → y ≡ r
      is_r e = same_value f false y r w Y (rooted_fits f x F) h (subst (λ (w : ℕ). HasValue r false w unit) e best.1)

      go : (v < w) ⊎ (w ≤ v) → (w < v) ⊎ (v ≤ w) → NearerToRoot f a c v false w
      go (inl l) o = inl (l, under (v + w) (on_side.0 l))
      go (inr l) (inl g) = inr (g, over (v + w) (on_side.1 g))
      go (inr l) (inr g) = absurd (d (is_r (le_antisymm g l)))
  nearer true y w Y d h =
      (more v w best.2, over (v - w) (lt_of_le_of_lt (sq_mono (v - w) (v + 0) (less v w)) from_zero))
    where
      more : (v w : ℕ) → 0 < v → 0 < v + w
      more v w h = omega arith

      less : (v w : ℕ) → v - w ≤ v + 0
      less v w = omega arith

      -- zero is a value of the format
      from_zero : (v + 0) * (v + 0) < 4 * n
      from_zero = (best.3 0 (0, 0, pow_pos (prec f), sym (zero-mul (2 ^ 0)))).1 best.2

  root_is_nearest : NearestToRoot f a c r
  root_is_nearest = (v, best.1, λ y Y I d. let (t, w, h) = counted f y Y I in (t, w, h, nearer t y w Y d h))

-- ---- and there is no second one
only_nearest : (f : Format) (a c : ℕ) (x y : Float) → T (fits f x) → T (fits f y)
    → NearestToRoot f a c x → NearestToRoot f a c y → x ≡ y
only_nearest f a c x y F Y (v, P, p) (w, Q, q) = go (split v w) (split w v)
  where
    unit : ℕ
    unit = 2 ^ low f

    same : x ≡ y → v ≡ w
    same e = one_count y false false v w unit (subst (λ (z : Float). HasValue z false v unit) e P) Q

    found : (v w : ℕ) (y : Float) → HasValue y false w unit → NearerThan f a c v y → NearerToRoot f a c v false w
    found v w y W (t, i, h, n) =
        subst (λ (i : ℕ). NearerToRoot f a c v false i) (one_count y t false i w unit h W)
        (subst (λ (t : Bool). NearerToRoot f a c v t i) (one_sign y t false i w unit unit h W) n)

    clash : (n c v w : ℕ) → 4 * n < (v + w) * (v + w) * c → (w + v) * (w + v) * c < 4 * n → ⊥
    clash n c v w h k =
        let e = ap (λ (d : ℕ). d * d * c) (add_comm v w) in
        by (4 * n) ((v + w) * (v + w) * c) ((w + v) * (w + v) * c) e h k
      where
        by : (n d e : ℕ) → d ≡ e → n < d → e < n → ⊥
        by n d e i h k = omega arith

    cross : {v w : ℕ} → v < w → w < v → ⊥
    cross l g = omega arith

    both : NearerToRoot f a c v false w → NearerToRoot f a c w false v → ⊥
    both (inl (l, h)) (inl (g, k)) = cross l g
    both (inl (l, h)) (inr (g, k)) = clash (a * unit * unit) c v w h k
    both (inr (l, h)) (inl (g, k)) = clash (a * unit * unit) c w v k h
    both (inr (l, h)) (inr (g, k)) = cross l g

    off : (v ≡ w → ⊥) → ⊥
    off d =
        both (found v w y Q (p y Y (is_finite y false w unit Q) (λ (e : y ≡ x). d (same (sym e)))))
        (found w v x P (q x F (is_finite x false v unit P) (λ (e : x ≡ y). d (same e))))

    less : (i j : ℕ) → i < j → i ≡ j → ⊥
    less i j l e = omega arith

    more : (i j : ℕ) → i < j → j ≡ i → ⊥
    more i j l e = omega arith

    go : (v < w) ⊎ (w ≤ v) → (w < v) ⊎ (v ≤ w) → x ≡ y
    go (inl l) o = absurd (off (less v w l))
    go (inr l) (inl g) = absurd (off (more w v g))
    go (inr l) (inr g) =
        same_value f false x y w F Y (subst (λ (i : ℕ). HasValue x false i unit) (le_antisymm g l) P) Q

-- ---- above zero, by any fraction a / c that x is
pub fraction_told : (f : Format) (x : Float) (a c : ℕ) → T (fits f x) → 0 < c → 0 < a → HasValue x false a c
    → T (fits f (rooted f x)) × NearestToRoot f a c (rooted f x)
    × ((y : Float) → T (fits f y) → NearestToRoot f a c y → y ≡ rooted f x)
fraction_told f x a c F C A H =
    let r = rooted f x in
    let R = rooted_fits f x F in
    let N = root_is_nearest f x a c F C A H in
    (R, N, λ y Y M. only_nearest f a c y r Y R M N)

-- ---- every x: NaN, the infinities, the zeros and what lies below zero by the definition
pub every_root_told : (f : Format) (x : Float) → T (fits f x)
    → T (fits f (rooted f x)) × RootOf f x (rooted f x)
    × ((y : Float) → T (fits f y) → RootOf f x y → y ≡ rooted f x)
unfolding rooted
every_root_told f nan F = (nan-fits f, refl, λ y Y h. h)
every_root_told f (inf s) F = (rooted_fits f (inf s) F, refl, λ y Y h. h)
every_root_told f (fin s zero e) F = (F, refl, λ y Y h. h)
every_root_told f (fin true (suc m) e) F = (nan-fits f, refl, λ y Y h. h)
every_root_told f (fin false (suc m) e) F =
    let A : 0 < suc m * up e = mul-pos (zero-lt-suc m) (up_pos e) in
    fraction_told f (fin false (suc m) e) (suc m * up e) (down e) F (down_pos e) A (refl, refl)
