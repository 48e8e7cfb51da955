-- `audio_agc::trial::clamp_into` meets its contract. The loop's invariant: the places before 4 x g are written. Assumes nothing.
use Prim.Native.Nat.{ℕ, ◌*◌, ◌<◌}
use mathlib.Core.Path.{◌≡◌}
use lib.ListN.{length, get_or}
use lib.Ieee.{nan}
use Rattle.audio_agc.specs.Step.{clamp_one}
use Rattle.audio_agc.proofs.trial.clamp_into.Given as goal

abbrev pub invariant-loop-g : goal.invariant-loop-g
invariant-loop-g l = (length l.«data» ≡ 32) × ((i : ℕ) → i < 4 * l.g → get_or l.«data» i nan ≡ clamp_one (get_or l.z i nan))
