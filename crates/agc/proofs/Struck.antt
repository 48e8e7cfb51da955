-- Demand 3 of the gain control, dropping: the call again without the pairs that it struck changes no other output and not the state at its end, and
-- strikes none. A pair of which a half is not finite is always struck. Assumes nothing.
use mathlib.Core.Path.{◌≡◌}
use mathlib.Core.Bool.{false}
use mathlib.Core.List.{List}
use lib.Ieee.{Float, binary32}
use Rattle.stage.specs.Floats.{both_finite}
use Rattle.stage.specs.Refusal.{NONE}
use Rattle.stage.specs.Run.{struck}
use Rattle.stage.specs.Lent.{interleaved}
use Rattle.stage.specs.Kept.{kept_of, without_struck}
use Rattle.stage.proofs.Lents.{interleaved_lawful}
use Rattle.stage.proofs.Dropped.{call_dropped}
use Rattle.stage.proofs.NotFinite.{mul_not_finite, half_not_finite}
use Rattle.agc.specs.declared.Agc.{Agc}
use Rattle.agc.specs.Gain.{magnitude_of, gain_after}
use Rattle.agc.specs.Step.{agc_answer}
use Rattle.agc.specs.Process.{agc_stage, process}

pub dropped : (s : Agc) (xs : List Float) → (process s xs).refusal ≡ NONE
    → process s (kept_of agc_stage interleaved s xs) ≡ without_struck agc_stage interleaved s xs (process s xs)
dropped s xs e = call_dropped agc_stage interleaved interleaved_lawful s xs e

-- from whatever state
pub not_finite_struck : (s : Agc) (p : Float × Float) → both_finite p.0 p.1 ≡ false → agc_answer s p ≡ struck
unfolding agc_answer
not_finite_struck s p h =
    let gain = gain_after s (magnitude_of p.0 p.1) in
    rw (half_not_finite p.0 p.1 _ _ (mul_not_finite binary32 p.0 gain) (mul_not_finite binary32 p.1 gain) h)
