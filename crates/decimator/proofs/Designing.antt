-- The cutoff of a decimator that is made for a factor, 0.75 / factor, is always allowed. Assumes nothing.
use Prim.Native.Nat.{ℕ, zero, suc, ◌+◌, ◌-◌, ◌≤◌, ◌<◌}
use native.Mathlib.Nat.{add-zero}
use native.Mathlib.Omega.{arith}
use mathlib.Core.Path.{◌≡◌, refl, ap, ◌∙◌}
use mathlib.Core.Bool.{Bool, true, ◌&&◌}
use lib.Ieee.{of_bits, of_int, div, le, lt}
use Rattle.stage.proofs.Both.{both}
use Rattle.lowpass.specs.Rules.{cutoff_allowed}
use Rattle.decimator.specs.Making.{cutoff_for}

-- ---- a test over n numbers from i on, computed

abbrev all : (ℕ → Bool) → ℕ → ℕ → Bool
all p i zero = true
all p i (suc n) = p i && all p (suc i) n

all_says : (p : ℕ → Bool) (i n j : ℕ) → all p i n ≡ true → j < n → p (i + j) ≡ true
all_says p i zero j e lt = absurd (omega arith)
all_says p i (suc n) zero e lt = ap p (add-zero i) ∙ (both (p i) (all p (suc i) n) e).0
all_says p i (suc n) (suc j) e lt =
    let step : i + suc j ≡ suc i + j = omega arith in
    ap p step ∙ all_says p (suc i) n j (both (p i) (all p (suc i) n) e).1 (omega arith)

each : all (λ factor. cutoff_allowed (cutoff_for factor)) 2 63 ≡ true
unfolding cutoff_for of_bits of_int div le lt
each = refl

pub cutoff_for_allowed : (factor : ℕ) → 2 ≤ factor → factor ≤ 64 → cutoff_allowed (cutoff_for factor) ≡ true
cutoff_for_allowed factor low high =
    let e : 2 + (factor - 2) ≡ factor = omega arith in
    rw e at (all_says (λ f. cutoff_allowed (cutoff_for f)) 2 63 (factor - 2) each (omega arith))
