-- No accepted call of the gain control, and no `new`, gives a state that a later call refuses with SETTING or STATE: the settings stay as they are,
-- and the gain stays finite. Assumes nothing.
use mathlib.Core.Path.{◌≡◌}
use mathlib.Core.List.{List}
use lib.Ieee.{Float}
use Rattle.stage.specs.Refusal.{NONE}
use Rattle.stage.specs.Lent.{interleaved}
use Rattle.stage.specs.Calls.{Fit, Taken, Accepted}
use Rattle.stage.proofs.Stays.{sound_taken, call_keeps, all_accepted}
use Rattle.agc.specs.declared.Agc.{Agc}
use Rattle.agc.specs.State.{made}
use Rattle.agc.specs.Process.{agc_stage, process}
use Rattle.agc.proofs.Sound.{agc_keeps, made_sound}

pub new_stays : (target attack decay : Float) → (made target attack decay).refusal ≡ NONE → Taken process (made target attack decay).state
new_stays target attack decay e = sound_taken agc_stage interleaved _ (made_sound target attack decay e)

pub stays : (s : Agc) (xs : List Float) → (process s xs).refusal ≡ NONE → Taken process (process s xs).state
stays s xs e = sound_taken agc_stage interleaved _ (call_keeps agc_stage interleaved agc_keeps s xs e)

-- so all calls after it are accepted whose slices meet the demands
pub then_accepted : (s : Agc) (xs : List Float) (bs : List (List Float)) → (process s xs).refusal ≡ NONE → Fit interleaved bs → Accepted agc_stage interleaved (process s xs).state bs
then_accepted s xs bs e f = all_accepted agc_stage interleaved agc_keeps _ bs (call_keeps agc_stage interleaved agc_keeps s xs e) f
