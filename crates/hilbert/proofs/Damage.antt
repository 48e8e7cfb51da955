-- Damage passes: two streams that differ only at positions a to b - 1, each cut in its own way into accepted calls of a fresh filter, give the
-- same output at every position that does not see the damage, and end alike where taps - 1 samples follow it. Assumes nothing.
use Prim.Native.Nat.{ℕ, ◌+◌, ◌-◌, ◌≤◌, ◌<◌}
use native.Mathlib.Omega.{arith}
use mathlib.Core.Path.{◌≡◌, refl}
use mathlib.Core.List.{List, [], ◌∷◌}
use lib.ListN.{length, get_or, length-replicate}
use lib.Ieee.{Float}
use Rattle.stage.specs.Floats.{plus_zero}
use Rattle.fir.specs.Dot.{odd_taps}
use Rattle.fir.specs.Damage.{DifferWithin, Unseen}
use Rattle.fir.proofs.Each.{each_passes, each_forgotten}
use Rattle.hilbert.specs.Stream.{Call, stream_of, AllAccepted, called_outs, called_end, fresh_for}
use Rattle.hilbert.proofs.Cut.{obeys, cut}

-- a call that is accepted has taps
has_taps : (taps history : List Float) (c : Call) (cs : List Call) → AllAccepted taps history (c ∷ cs) → 0 < length taps
has_taps taps history c cs ok = omega (arith, obeys taps history c ok.0)

module _ (taps : List Float) (a b : ℕ) (some : 0 < length taps) (xs ys : List Call) (okx : AllAccepted taps (fresh_for taps) xs)
    (oky : AllAccepted taps (fresh_for taps) ys) (differ : DifferWithin a b (stream_of xs) (stream_of ys)) where
  fit : length taps ≡ length (fresh_for taps) + 1
  fit = rw (length-replicate (length taps - 1) plus_zero) (omega arith)

  passes : (j : ℕ) (none : Float) → Unseen (length taps) a b j
      → get_or (called_outs taps (fresh_for taps) xs) j none ≡ get_or (called_outs taps (fresh_for taps) ys) j none
  passes j none w =
      rw ((cut taps (fresh_for taps) xs okx).0, (cut taps (fresh_for taps) ys oky).0)
      (each_passes (odd_taps taps) refl a b (fresh_for taps) (stream_of xs) (stream_of ys) fit differ j none w)

  forgotten : b + (length taps - 1) ≤ length (stream_of xs) → called_end taps (fresh_for taps) xs ≡ called_end taps (fresh_for taps) ys
  forgotten far =
      rw ((cut taps (fresh_for taps) xs okx).1, (cut taps (fresh_for taps) ys oky).1)
      (each_forgotten (odd_taps taps) refl a b (fresh_for taps) (stream_of xs) (stream_of ys) fit differ far)

-- ---- the theorems

-- output j is taken at position j; `none` stands for what is past the last
pub damage_passes : (taps : List Float) (a b : ℕ) (xs ys : List Call)
    → AllAccepted taps (fresh_for taps) xs → AllAccepted taps (fresh_for taps) ys → DifferWithin a b (stream_of xs) (stream_of ys)
    → (j : ℕ) (none : Float) → Unseen (length taps) a b j
    → get_or (called_outs taps (fresh_for taps) xs) j none ≡ get_or (called_outs taps (fresh_for taps) ys) j none
damage_passes taps a b [] [] okx oky differ j none w = refl
damage_passes taps a b [] (c ∷ cs) okx oky differ j none w =
    passes taps a b (has_taps taps (fresh_for taps) c cs oky) [] (c ∷ cs) okx oky differ j none w
damage_passes taps a b (c ∷ cs) ys okx oky differ j none w =
    passes taps a b (has_taps taps (fresh_for taps) c cs okx) (c ∷ cs) ys okx oky differ j none w

-- where taps - 1 samples or more follow the damage, both end with one history
pub damage_forgotten : (taps : List Float) (a b : ℕ) (xs ys : List Call)
    → AllAccepted taps (fresh_for taps) xs → AllAccepted taps (fresh_for taps) ys → DifferWithin a b (stream_of xs) (stream_of ys)
    → b + (length taps - 1) ≤ length (stream_of xs) → called_end taps (fresh_for taps) xs ≡ called_end taps (fresh_for taps) ys
damage_forgotten taps a b [] [] okx oky differ far = refl
damage_forgotten taps a b [] (c ∷ cs) okx oky differ far =
    forgotten taps a b (has_taps taps (fresh_for taps) c cs oky) [] (c ∷ cs) okx oky differ far
damage_forgotten taps a b (c ∷ cs) ys okx oky differ far =
    forgotten taps a b (has_taps taps (fresh_for taps) c cs okx) (c ∷ cs) ys okx oky differ far
