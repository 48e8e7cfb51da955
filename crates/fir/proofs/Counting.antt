-- How many outputs a block gives: as many as there are places phase, phase + factor, .. in it, and cut in two it gives as many. Assumes nothing.
use Prim.Native.Nat.{ℕ, zero, suc, ◌+◌, ◌-◌, ◌*◌, ◌/◌, ◌≤◌, ◌<◌}
use native.Mathlib.Nat.{add-mul, one-mul, zero-mul, mul-one, mul-le-mul_right, le_antisymm, div-mul-le_self, lt-div-mul-add, div-eq_of_lt, div-zero, div-one, add-div_right}
use native.Mathlib.Omega.{arith}
use native.Mathlib.Decide.{dec_lt}
use mathlib.Core.Path.{◌≡◌, ap, ◌∙◌}
use mathlib.Core.Logic.{◌⊎◌, inl, inr, ⊎_elim}
use Rattle.fir.specs.Filter.{count_of, next_phase}

by_dec : (a b : ℕ) → Dec (a < b) → (a < b) ⊎ (b ≤ a)
by_dec a b (yes h) = inl h
by_dec a b (no h) = inr (omega arith)

pub lt_or_ge : (a b : ℕ) → (a < b) ⊎ (b ≤ a)
lt_or_ge a b = by_dec a b (dec_lt a b)

-- a block not longer than phase gives no output, for any factor
pub count_none : (f q n : ℕ) → n ≤ q → count_of f q n ≡ 0
unfolding count_of
count_none zero q n h = div-zero _
count_none (suc f) q n h = div-eq_of_lt (omega arith)

-- and phase drops by n
pub phase_drops : (f q n : ℕ) → n ≤ q → next_phase f q n ≡ q - n
unfolding next_phase
phase_drops f q n h = rw (count_none f q n h) (omega (arith, zero-mul f))

-- where every sample gives an output, there are as many, and the phase stays 0
pub count_of_each : (n : ℕ) → count_of 1 0 n ≡ n
unfolding count_of
count_of_each n = rw div-one (omega arith)

pub phase_of_each : (n : ℕ) → next_phase 1 0 n ≡ 0
unfolding next_phase
phase_of_each n = rw (count_of_each n) (omega (arith, mul-one n))

module _ (f : ℕ) (f-pos : 0 < f) where
  -- as many as fit: count x f ≤ n - q + (f - 1) < count x f + f
  pub count_low : (q n : ℕ) → count_of f q n * f ≤ n - q + (f - 1)
  unfolding count_of
  count_low q n = div-mul-le_self (n - q + (f - 1)) f

  count_high : (q n : ℕ) → n - q + (f - 1) < count_of f q n * f + f
  unfolding count_of
  count_high q n = lt-div-mul-add f-pos

  -- of a longer block: one, and one more for each whole factor behind it
  pub count_some : (q n : ℕ) → q < n → count_of f q n ≡ (n - q - 1) / f + 1
  unfolding count_of
  count_some q n h =
      let whole : n - q + (f - 1) ≡ n - q - 1 + f = omega arith in
      rw (whole, add-div_right (n - q - 1) f-pos)

  -- each output's place is in the block
  pub count_in : (q n j : ℕ) → j < count_of f q n → q + j * f < n
  count_in q n j h =
      let step : (j + 1) * f ≤ count_of f q n * f = mul-le-mul_right f (omega arith) in
      omega (arith, count_low q n, add-mul j 1 f, one-mul f)

  -- the next one's is not
  pub count_out : (q n : ℕ) → n ≤ q + count_of f q n * f
  count_out q n = omega (arith, count_high q n)

  -- so it is the one number whose place is past the end while those before it are not
  count_is : (q n k : ℕ) → n ≤ q + k * f → ((j : ℕ) → j < k → q + j * f < n) → count_of f q n ≡ k
  count_is q n k past before =
      ⊎_elim
      (λ lt. absurd (omega (arith, before (count_of f q n) lt, count_out q n)))
      (λ ge. ⊎_elim
      (λ lt. absurd (omega (arith, count_in q n k lt)))
      (λ le. le_antisymm le ge)
      (lt_or_ge k (count_of f q n)))
      (lt_or_ge (count_of f q n) k)

  -- m samples and then n more
  pub count_cut : (q m n : ℕ) → count_of f q (m + n) ≡ count_of f q m + count_of f (next_phase f q m) n
  unfolding next_phase
  count_cut q m n =
      let k₁ = count_of f q m in
      let q₁ = q + k₁ * f - m in
      let k₂ = count_of f q₁ n in
      count_is q (m + n) (k₁ + k₂)
      (omega (arith, add-mul k₁ k₂ f, count_out q m, count_out q₁ n))
      (λ j lt. ⊎_elim
      (λ l. omega (arith, count_in q m j l))
      (λ g.
      let e : j ≡ k₁ + (j - k₁) = omega arith in
      let i : j * f ≡ k₁ * f + (j - k₁) * f = ap (λ (x : ℕ). x * f) e ∙ add-mul k₁ (j - k₁) f in
      omega (arith, i, count_out q m, count_in q₁ n (j - k₁) (omega arith)))
      (lt_or_ge j k₁))

  pub phase_cut : (q m n : ℕ) → next_phase f q (m + n) ≡ next_phase f (next_phase f q m) n
  unfolding next_phase
  phase_cut q m n =
      let k₁ = count_of f q m in
      let q₁ = q + k₁ * f - m in
      let k₂ = count_of f q₁ n in
      ap (λ (k : ℕ). q + k * f - (m + n)) (count_cut q m n)
      ∙ omega (arith, add-mul k₁ k₂ f, count_out q m, count_out q₁ n)

  -- a phase below the factor stays below it
  pub phase_below : (q n : ℕ) → q < f → next_phase f q n < f
  unfolding next_phase
  phase_below q n h =
      ⊎_elim
      (λ lt. rw (count_none f q n (omega arith)) (omega (arith, zero-mul f)))
      (λ ge. omega (arith, count_low q n))
      (lt_or_ge n q)
