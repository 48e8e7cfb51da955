-- The square root told without the method, for either format. For every x above zero that the format holds, `rooted` is a value of the format, every other value lies
-- further from the exact root, and no second value has that property. (EveryRoot says it of every x.) Assumes nothing.
use mathlib.Core.Path.{◌≡◌, ap, subst}
use mathlib.Core.Logic.{◌⊎◌, inl, inr}
use Prim.Native.Nat.{ℕ, ◌+◌, ◌*◌, ◌^◌, ◌≤◌, ◌<◌}
use native.Mathlib.Nat.{le_antisymm, add_comm}
use native.Mathlib.Omega.{arith}
use mathlib.Core.Bool.{false}
use lib.Dec.{T}
use lib.Ieee.{Float, Format, low, fits}
use lib.Ieee.Exact.{HasValue}
use Rattle.number.proofs.Pack.{split}
use Rattle.number.proofs.Adding.{same_value}
use Rattle.number.proofs.Grid.{on_grid}
use Rattle.root.specs.Root.{rooted}
use Rattle.root.specs.Nearest.{Nearer, NearestOf}
use Rattle.root.proofs.Fits.{rooted_fits}
use Rattle.root.proofs.EveryRoot.{above_zero}

-- ---- the nearest
-- x is X smallest values, 2 ^ -low each, so √x is √(X * 2 ^ low) of them
pub root_is_nearest : (f : Format) (x : Float) (X : ℕ) → T (fits f x) → HasValue x false X (2 ^ low f) → 0 < X → NearestOf f (X * 2 ^ low f) (rooted f x)
root_is_nearest f x X F H P =
    let b = above_zero f x X F H P in
    (b.0, b.1, λ y w Y W. b.3 w (on_grid f false y w Y W))

-- ---- and the only one that is so near
clash : (n a b : ℕ) → a ≡ b → n < a → b < n → ⊥
clash n a b e h k = omega arith

sum_sq : (v w : ℕ) → (v + w) * (v + w) ≡ (w + v) * (w + v)
sum_sq v w = ap (λ (x : ℕ). x * x) (add_comm v w)

meet : (n v w : ℕ) → Nearer n v w → Nearer n w v → v ≡ w
meet n v w a b = go (split v w) (split w v)
  where
    go : (v < w) ⊎ (w ≤ v) → (w < v) ⊎ (v ≤ w) → v ≡ w
    go (inl h) o = absurd (clash (4 * n) ((v + w) * (v + w)) ((w + v) * (w + v)) (sum_sq v w) (a.0 h) (b.1 h))
    go (inr h) (inl k) = absurd (clash (4 * n) ((w + v) * (w + v)) ((v + w) * (v + w)) (sum_sq w v) (b.0 k) (a.1 k))
    go (inr h) (inr k) = le_antisymm k h

pub only_nearest : (f : Format) (n : ℕ) (x y : Float) → T (fits f x) → T (fits f y) → NearestOf f n x → NearestOf f n y → x ≡ y
only_nearest f n x y X Y p q =
    let e : p.0 ≡ q.0 = meet n p.0 q.0 (p.2 y q.0 Y q.1) (q.2 x p.0 X p.1) in
    same_value f false x y q.0 X Y (subst (λ (v : ℕ). HasValue x false v (2 ^ low f)) e p.1) q.1

-- the three together
pub root_told : (f : Format) (x : Float) (X : ℕ) → T (fits f x) → HasValue x false X (2 ^ low f) → 0 < X
    → T (fits f (rooted f x)) × NearestOf f (X * 2 ^ low f) (rooted f x) × ((y : Float) → T (fits f y) → NearestOf f (X * 2 ^ low f) y → y ≡ rooted f x)
root_told f x X F H P =
    let r = rooted f x in
    let R = rooted_fits f x F in
    let N = root_is_nearest f x X F H P in
    (R, N, λ y Y M. only_nearest f (X * 2 ^ low f) y r Y R M N)
