-- A number between two neighbours: which of the two is kept, by the middle between them, and why it is preferred to
-- every other value. All of it is on whole numbers: n is the number, a and a + u are the neighbours, a ≤ n < a + u, and
-- a is q * u; b is any value that does not lie between them. Assumes nothing.
use Rattle.std.proofs.Common.{◌≡◌, ℕ, zero, suc, ◌+◌, ◌-◌, ◌*◌, ◌/◌, ◌%◌, ◌<◌, ◌≤◌, ◌⊎◌, sym, ap, ◌∙◌, subst, inl, inr, zero-lt-suc, suc-mul, le_antisymm, mul-pos, div-add-mod', zero-mul, arith}
use lib.Ieee.Nearest.{closest}
use Rattle.number.specs.Nearest.{Preferred}
use Rattle.number.proofs.Pack.{split}
use Rattle.number.proofs.Nearest.{nearest_lt, nearest_gt, nearest_eq}

-- ---- which neighbour is kept, as the multiple r of u
abbrev pub ToLower : (n u q a : ℕ) → Type 0
ToLower n u q a = (2 * n < 2 * a + u) ⊎ ((2 * n ≡ 2 * a + u) × (q % 2 ≡ 0))

abbrev pub ToUpper : (n u q a : ℕ) → Type 0
ToUpper n u q a = (2 * a + u < 2 * n) ⊎ ((2 * n ≡ 2 * a + u) × (q % 2 ≡ 1))

pub data Kept (n u q a r : ℕ) : Type 0 where
  lower : r ≡ q → ToLower n u q a → Kept n u q a r
  upper : r ≡ suc q → ToUpper n u q a → Kept n u q a r

pub kept : (n u : ℕ) → Kept n u (n / u) (n / u * u) (closest n u)
kept n u = go (split (n % u * 2) u) (split u (n % u * 2))
  where
    q : ℕ
    q = n / u

    e : q * u + n % u ≡ n
    e = div-add-mod' n u

    tie : n % u * 2 ≡ u → (q % 2 < 1) ⊎ (1 ≤ q % 2) → Kept n u q (q * u) (closest n u)
    tie h (inl z) = lower (nearest_eq q (n % u * 2) u h ∙ even q z) (inr (half n u (q * u) (n % u) e h, none q z))
      where
        half : (n u a r : ℕ) → a + r ≡ n → r * 2 ≡ u → 2 * n ≡ 2 * a + u
        half n u a r e h = omega arith

        even : (q : ℕ) → q % 2 < 1 → q + q % 2 ≡ q
        even q z = omega arith

        none : (q : ℕ) → q % 2 < 1 → q % 2 ≡ 0
        none q z = omega arith
    tie h (inr z) = upper (nearest_eq q (n % u * 2) u h ∙ odd q z) (inr (half n u (q * u) (n % u) e h, one q z))
      where
        half : (n u a r : ℕ) → a + r ≡ n → r * 2 ≡ u → 2 * n ≡ 2 * a + u
        half n u a r e h = omega arith

        odd : (q : ℕ) → 1 ≤ q % 2 → q + q % 2 ≡ suc q
        odd q z = omega arith

        one : (q : ℕ) → 1 ≤ q % 2 → q % 2 ≡ 1
        one q z = omega arith

    go : (n % u * 2 < u) ⊎ (u ≤ n % u * 2) → (u < n % u * 2) ⊎ (n % u * 2 ≤ u) → Kept n u q (q * u) (closest n u)
    go (inl h) o = lower (nearest_lt q (n % u * 2) u h) (inl (below n u (q * u) (n % u) e h))
      where
        below : (n u a r : ℕ) → a + r ≡ n → r * 2 < u → 2 * n < 2 * a + u
        below n u a r e h = omega arith
    go (inr h) (inl k) = upper (nearest_gt q (n % u * 2) u k) (inl (above n u (q * u) (n % u) e k))
      where
        above : (n u a r : ℕ) → a + r ≡ n → u < r * 2 → 2 * a + u < 2 * n
        above n u a r e h = omega arith
    go (inr h) (inr k) = tie (le_antisymm k h) (split (q % 2) 1)

-- ---- where a value b lies: not between the neighbours
pub data Lies (a u b : ℕ) : Type 0 where
  under : b < a → Lies a u b
  at_lower : b ≡ a → Lies a u b
  at_upper : b ≡ a + u → Lies a u b
  over : a + u < b → Lies a u b

-- the distance of two whole numbers
abbrev pub gap : ℕ → ℕ → ℕ
gap a b = a - b + (b - a)

-- b is that one of the neighbours which is odd
abbrev pub OddOne : (q a u b : ℕ) → Type 0
OddOne q a u b = ((b ≡ a) × (q % 2 ≡ 1)) ⊎ ((b ≡ a + u) × (suc q % 2 ≡ 1))

-- The kept value c is nearer than b; or they are equally near, c is the even neighbour and b the odd one.
abbrev pub Wins : (n u q a r c b : ℕ) → Type 0
Wins n u q a r c b = (gap n c < gap n b) ⊎ ((gap n c ≡ gap n b) × (r % 2 ≡ 0) × OddOne q a u b)

module _ (n u q a : ℕ) (lo : a ≤ n) (hi : n < a + u) where
  level : 2 * n ≡ 2 * a + u → gap n a ≡ gap n (a + u)
  level m = omega arith

  low_wins : (b : ℕ) → ToLower n u q a → Lies a u b → (b ≡ a → ⊥) → Wins n u q a q a b
  low_wins b m (under h) d = inl (omega arith)
  low_wins b m (at_lower h) d = absurd (d h)
  low_wins b (inl m) (at_upper h) d = inl (omega arith)
  low_wins b (inr (m, z)) (at_upper h) d = inr (level m ∙ ap (gap n) (sym h), z, inr (h, odd_next q z))
    where
      odd_next : (q : ℕ) → q % 2 ≡ 0 → suc q % 2 ≡ 1
      odd_next q h = omega arith
  low_wins b (inl m) (over h) d = inl (omega arith)
  low_wins b (inr (m, z)) (over h) d = inl (omega arith)

  high_wins : (b : ℕ) → ToUpper n u q a → Lies a u b → (b ≡ a + u → ⊥) → Wins n u q a (suc q) (a + u) b
  high_wins b m (over h) d = inl (omega arith)
  high_wins b m (at_upper h) d = absurd (d h)
  high_wins b (inl m) (at_lower h) d = inl (omega arith)
  high_wins b (inr (m, z)) (at_lower h) d = inr (sym (level m) ∙ ap (gap n) (sym h), even_next q z, inl (h, z))
    where
      even_next : (q : ℕ) → q % 2 ≡ 1 → suc q % 2 ≡ 0
      even_next q h = omega arith
  high_wins b (inl m) (under h) d = inl (omega arith)
  high_wins b (inr (m, z)) (under h) d = inl (omega arith)

-- ---- of the two neighbours the kept one wins
module _ (n u q r b : ℕ) (lo : q * u ≤ n) (hi : n < q * u + u) where
  -- over every value of the number's sign
  pub wins : Kept n u q (q * u) r → Lies (q * u) u b → (b ≡ r * u → ⊥) → Wins n u q (q * u) r (r * u) b
  wins (lower e m) l d =
      subst (λ (x : ℕ). Wins n u q (q * u) x (x * u) b) (sym e)
      (low_wins n u q (q * u) lo hi b m l (λ (g : b ≡ q * u). d (g ∙ ap (λ (x : ℕ). x * u) (sym e))))
  wins (upper e m) l d =
      subst (λ (x : ℕ). Wins n u q (q * u) x (x * u) b) (sym e)
      (subst (λ (c : ℕ). Wins n u q (q * u) (suc q) c b) (sym (suc-mul q u))
      (high_wins n u q (q * u) lo hi b m l
      (λ (g : b ≡ q * u + u). d (g ∙ sym (suc-mul q u) ∙ ap (λ (x : ℕ). x * u) (sym e)))))

  -- and over those of the other sign, -b: they lie n + b off; zero has both signs, and is even
  pub wins_across : 0 < u → Kept n u q (q * u) r → Preferred (gap n (r * u)) (n + b) r
  wins_across U (lower e m) = subst (λ (x : ℕ). Preferred (gap n (x * u)) (n + b) x) (sym e) (go q lo)
    where
      strict : (a : ℕ) → 0 < a → a ≤ n → gap n a < n + b
      strict a h l = omega arith

      at_zero : (a : ℕ) → a ≡ 0 → (0 < b) ⊎ (b ≤ 0) → Preferred (gap n a) (n + b) 0
      at_zero a e (inl h) = inl (omega arith)
      at_zero a e (inr h) = inr (omega arith, omega arith)

      go : (q : ℕ) → q * u ≤ n → Preferred (gap n (q * u)) (n + b) q
      go zero l = at_zero (0 * u) (zero-mul u) (split 0 b)
      go (suc q) l = inl (strict (suc q * u) (mul-pos (zero-lt-suc q) U) l)
  wins_across U (upper e m) =
      subst (λ (x : ℕ). Preferred (gap n (x * u)) (n + b) x) (sym e)
      (subst (λ (c : ℕ). Preferred (gap n c) (n + b) (suc q)) (sym (suc-mul q u)) (go (q * u) lo hi m))
    where
      go : (a : ℕ) → a ≤ n → n < a + u → ToUpper n u q a → Preferred (gap n (a + u)) (n + b) (suc q)
      go a l h (inl m) = inl (omega arith)
      go a l h (inr (m, z)) = by (split 0 (a + b))
        where
          by : (0 < a + b) ⊎ (a + b ≤ 0) → Preferred (gap n (a + u)) (n + b) (suc q)
          by (inl g) = inl (omega arith)
          by (inr g) = inr (omega arith, omega arith)
