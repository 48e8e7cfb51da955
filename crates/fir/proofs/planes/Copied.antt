-- The planes before a place hold their samples: one more place, four more, the end of a plane and of all. Assumes nothing.
use mathlib.Core.Path.{◌≡◌, refl, sym, ◌∙◌}
use mathlib.Core.List.{List}
use mathlib.Core.Logic.{⊎_elim}
use Prim.Native.Nat.{ℕ, ◌+◌, ◌*◌, ◌≤◌, ◌<◌}
use native.Mathlib.Nat.{add-mul, one-mul, mul-le-mul_right, lt_of_mul-lt-mul_right}
use native.Mathlib.Omega.{arith}
use lib.ListN.{length, get_or, set, length-set}
use lib.Seq.{get_or-set_same, get_or-set_other}
use lib.Ieee.{Float, nan}
use Rattle.fir.specs.Planes.{Upto}
use Rattle.fir.proofs.Counting.{lt_or_ge}

-- a row below b
pub row_below : (k f b : ℕ) → k * f < b * f → k < b
row_below k f b h = lt_of_mul-lt-mul_right f h

-- a place has one plane and one row
same_plane : (k k' p p' : ℕ) → k < 128 → k' < 128 → p' * 128 + k' ≡ p * 128 + k → p' ≡ p
same_plane k k' p p' h h' e = omega arith

same_row : (k k' p p' : ℕ) → k < 128 → k' < 128 → p' * 128 + k' ≡ p * 128 + k → k' ≡ k
same_row k k' p p' h h' e = omega arith

-- one more place
pub upto_set : (z x : List Float) (f p k s place : ℕ) → Upto z x f (p * 128 + k) → k < 128 → place ≡ p * 128 + k → place < length z → s ≡ k * f + p
    → Upto (set z place (get_or x s nan)) x f (p * 128 + (k + 1))
upto_set z x f p k s place h hk here room is p' k' hp' hk' lt inx =
    ⊎_elim
    (λ l. get_or-set_other z place (p' * 128 + k') (get_or x s nan) nan (λ e. omega arith) ∙ h p' k' hp' hk' l inx)
    (λ g.
    let e : p' * 128 + k' ≡ place = omega arith in
    let ek : k' * f + p' ≡ s = rw (same_row k k' p p' hk hk' (omega arith), same_plane k k' p p' hk hk' (omega arith)) (sym is) in
    rw (e, ek) (get_or-set_same z place (get_or x s nan) nan room))
    (lt_or_ge (p' * 128 + k') (p * 128 + k))

-- four more
pub upto_four : (z x : List Float) (f p k s : ℕ) → Upto z x f (p * 128 + k) → k + 3 < 128 → p * 128 + 128 ≤ length z → s ≡ k * f + p
    → Upto
    (set
    (set (set (set z (p * 128 + k) (get_or x s nan)) (p * 128 + k + 1) (get_or x (s + f) nan)) (p * 128 + k + 2) (get_or x (s + f + f) nan))
    (p * 128 + k + 3)
    (get_or x (s + f + f + f) nan))
    x
    f
    (p * 128 + (k + 4))
upto_four z x f p k s h hk room is =
    let z₁ = set z (p * 128 + k) (get_or x s nan) in
    let z₂ = set z₁ (p * 128 + k + 1) (get_or x (s + f) nan) in
    let z₃ = set z₂ (p * 128 + k + 2) (get_or x (s + f + f) nan) in
    let l₁ : length z₁ ≡ length z = length-set z (p * 128 + k) (get_or x s nan) in
    let l₂ : length z₂ ≡ length z = length-set z₁ (p * 128 + k + 1) (get_or x (s + f) nan) ∙ l₁ in
    let l₃ : length z₃ ≡ length z = length-set z₂ (p * 128 + k + 2) (get_or x (s + f + f) nan) ∙ l₂ in
    let k₁ : s + f ≡ (k + 1) * f + p = omega (arith, add-mul k 1 f, one-mul f) in
    let k₂ : s + f + f ≡ (k + 2) * f + p = omega (arith, add-mul k 2 f) in
    let k₃ : s + f + f + f ≡ (k + 3) * f + p = omega (arith, add-mul k 3 f) in
    let h₁ : Upto z₁ x f (p * 128 + (k + 1)) = upto_set z x f p k s (p * 128 + k) h (omega arith) refl (omega arith) is in
    let h₂ : Upto z₂ x f (p * 128 + (k + 1 + 1)) = upto_set z₁ x f p (k + 1) (s + f) (p * 128 + k + 1) h₁ (omega arith) (omega arith) (omega arith) k₁ in
    let e₂ : k + 1 + 1 ≡ k + 2 = omega arith in
    let h₂' : Upto z₂ x f (p * 128 + (k + 2)) = rw e₂ at h₂ in
    let h₃ : Upto z₃ x f (p * 128 + (k + 2 + 1)) = upto_set z₂ x f p (k + 2) (s + f + f) (p * 128 + k + 2) h₂' (omega arith) (omega arith) (omega arith) k₂ in
    let e₃ : k + 2 + 1 ≡ k + 3 = omega arith in
    let h₃' : Upto z₃ x f (p * 128 + (k + 3)) = rw e₃ at h₃ in
    let e₄ : k + 3 + 1 ≡ k + 4 = omega arith in
    rw e₄ at (upto_set z₃ x f p (k + 3) (s + f + f + f) (p * 128 + k + 3) h₃' (omega arith) (omega arith) (omega arith) k₃)

-- the end of a plane: the rows from k on have no sample of it
pub upto_end : (z x : List Float) (f p k s : ℕ) → Upto z x f (p * 128 + k) → s ≡ k * f + p → length x ≤ s → Upto z x f (p * 128 + 128)
upto_end z x f p k s h is past p' k' hp' hk' lt inx =
    ⊎_elim
    (λ l. h p' k' hp' hk' l inx)
    (λ g.
    let ep : p' ≡ p = omega arith in
    let le : k ≤ k' = omega arith in
    let more : k * f ≤ k' * f = mul-le-mul_right f le in
    absurd (omega arith))
    (lt_or_ge (p' * 128 + k') (p * 128 + k))

-- the end of the planes
pub upto_all : (z x : List Float) (f p : ℕ) → Upto z x f (p * 128) → f ≤ p → Upto z x f (f * 128)
upto_all z x f p h le p' k' hp' hk' lt inx = h p' k' hp' hk' (omega arith) inx
