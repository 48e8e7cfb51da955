-- Damage passes: two streams that differ only at positions a to b - 1, each cut in its own way into accepted calls of a fresh decimator, give
-- the same output at every position that does not see the damage, and end alike where taps - 1 samples follow it. Assumes nothing.
use Prim.Native.Nat.{ℕ, ◌+◌, ◌-◌, ◌*◌, ◌≤◌, ◌<◌}
use native.Mathlib.Nat.{zero-add}
use native.Mathlib.Omega.{arith}
use mathlib.Core.Path.{◌≡◌, refl, ap}
use mathlib.Core.List.{List, [], ◌∷◌}
use lib.ListN.{length, get_or, length-replicate}
use lib.Ieee.{Float}
use Rattle.stage.specs.Floats.{plus_zero}
use Rattle.fir.specs.Dot.{every_tap}
use Rattle.fir.specs.Damage.{DifferWithin, Unseen}
use Rattle.fir.proofs.Damage as any
use Rattle.decimator.specs.Answers.{fresh}
use Rattle.decimator.specs.Stream.{Call, Handed, handed, stream_of, AllAccepted, called_outs, called_end, fresh_with}
use Rattle.decimator.proofs.Cut.{good, cut}

-- a call that is accepted has taps
has_taps : (taps : List Float) (s : Handed) (c : Call) (cs : List Call) → AllAccepted taps s (c ∷ cs) → 0 < length taps
has_taps taps s c cs ok = omega (arith, good taps s c ok.0)

module _ (factor : ℕ) (taps : List Float) (a b : ℕ) (some : 0 < length taps) (xs ys : List Call) (okx : AllAccepted taps (fresh_with factor taps) xs)
    (oky : AllAccepted taps (fresh_with factor taps) ys) (differ : DifferWithin a b (stream_of xs) (stream_of ys)) where
  fit : length taps ≡ length (fresh_with factor taps).history + 1
  fit = rw (length-replicate (length taps - 1) plus_zero) (omega arith)

  passes : (j : ℕ) (none : Float) → Unseen (length taps) a b (j * factor)
      → get_or (called_outs taps (fresh_with factor taps) xs) j none ≡ get_or (called_outs taps (fresh_with factor taps) ys) j none
  passes j none w =
      rw ((cut taps (fresh_with factor taps) xs okx).0, (cut taps (fresh_with factor taps) ys oky).0)
      (any.damage_passes (every_tap factor taps) a b (fresh_with factor taps).history (stream_of xs) (stream_of ys) fit differ 0 j none (rw zero-add w))

  forgotten : b + (length taps - 1) ≤ length (stream_of xs) → called_end taps (fresh_with factor taps) xs ≡ called_end taps (fresh_with factor taps) ys
  forgotten far =
      rw ((cut taps (fresh_with factor taps) xs okx).1, (cut taps (fresh_with factor taps) ys oky).1)
      (ap (handed (fresh factor)) (any.damage_forgotten (every_tap factor taps) a b (fresh_with factor taps).history (stream_of xs) (stream_of ys) fit differ 0 far))

-- ---- the theorems

-- output j is taken at position j x factor; `none` stands for what is past the last
pub damage_passes : (factor : ℕ) (taps : List Float) (a b : ℕ) (xs ys : List Call)
    → AllAccepted taps (fresh_with factor taps) xs → AllAccepted taps (fresh_with factor taps) ys → DifferWithin a b (stream_of xs) (stream_of ys)
    → (j : ℕ) (none : Float) → Unseen (length taps) a b (j * factor)
    → get_or (called_outs taps (fresh_with factor taps) xs) j none ≡ get_or (called_outs taps (fresh_with factor taps) ys) j none
damage_passes factor taps a b [] [] okx oky differ j none w = refl
damage_passes factor taps a b [] (c ∷ cs) okx oky differ j none w =
    passes factor taps a b (has_taps taps (fresh_with factor taps) c cs oky) [] (c ∷ cs) okx oky differ j none w
damage_passes factor taps a b (c ∷ cs) ys okx oky differ j none w =
    passes factor taps a b (has_taps taps (fresh_with factor taps) c cs okx) (c ∷ cs) ys okx oky differ j none w

-- where taps - 1 samples or more follow the damage, both end in one phase and one history
pub damage_forgotten : (factor : ℕ) (taps : List Float) (a b : ℕ) (xs ys : List Call)
    → AllAccepted taps (fresh_with factor taps) xs → AllAccepted taps (fresh_with factor taps) ys → DifferWithin a b (stream_of xs) (stream_of ys)
    → b + (length taps - 1) ≤ length (stream_of xs) → called_end taps (fresh_with factor taps) xs ≡ called_end taps (fresh_with factor taps) ys
damage_forgotten factor taps a b [] [] okx oky differ far = refl
damage_forgotten factor taps a b [] (c ∷ cs) okx oky differ far =
    forgotten factor taps a b (has_taps taps (fresh_with factor taps) c cs oky) [] (c ∷ cs) okx oky differ far
damage_forgotten factor taps a b (c ∷ cs) ys okx oky differ far =
    forgotten factor taps a b (has_taps taps (fresh_with factor taps) c cs okx) (c ∷ cs) ys okx oky differ far
