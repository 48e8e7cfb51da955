-- No accepted call of the audio gain control, and no `new`, gives a state that a later call refuses with SETTING or STATE: the settings stay as they
-- are, gain and envelope stay finite, and the hang counter stays within its hang time. Assumes nothing.
use mathlib.Core.Path.{◌≡◌}
use mathlib.Core.List.{List}
use lib.Ieee.{Float}
use Rattle.stage.specs.Refusal.{NONE}
use Rattle.stage.specs.Lent.{mono}
use Rattle.stage.specs.Calls.{Fit, Taken, Accepted}
use Rattle.stage.proofs.Stays.{sound_taken, call_keeps, all_accepted}
use Rattle.audio_agc.specs.declared.AudioAgc.{AudioAgc}
use Rattle.audio_agc.specs.Made.{made}
use Rattle.audio_agc.specs.Process.{audio_stage, process}
use Rattle.audio_agc.proofs.Sound.{audio_keeps, made_sound}

pub new_stays : (target attack decay time rate floor : Float) → (made target attack decay time rate floor).refusal ≡ NONE
    → Taken process (made target attack decay time rate floor).state
new_stays target attack decay time rate floor e = sound_taken audio_stage mono _ (made_sound target attack decay time rate floor e)

pub stays : (s : AudioAgc) (xs : List Float) → (process s xs).refusal ≡ NONE → Taken process (process s xs).state
stays s xs e = sound_taken audio_stage mono _ (call_keeps audio_stage mono audio_keeps s xs e)

-- so all calls after it are accepted whose slices meet the demands
pub then_accepted : (s : AudioAgc) (xs : List Float) (bs : List (List Float)) → (process s xs).refusal ≡ NONE → Fit mono bs → Accepted audio_stage mono (process s xs).state bs
then_accepted s xs bs e f = all_accepted audio_stage mono audio_keeps _ bs (call_keeps audio_stage mono audio_keeps s xs e) f
