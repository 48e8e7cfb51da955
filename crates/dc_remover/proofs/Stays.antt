-- No accepted call of the DC remover, and no `new`, gives a state that a later call of any of the three refuses with SETTING or STATE: alpha stays
-- from 0 to 1, and both means stay finite. Assumes nothing.
use mathlib.Core.Path.{◌≡◌}
use mathlib.Core.List.{List}
use lib.Ieee.{Float}
use Rattle.stage.specs.Refusal.{NONE}
use Rattle.stage.specs.Lent.{mono, interleaved, split}
use Rattle.stage.specs.Stage.{Sound}
use Rattle.stage.specs.Calls.{Fit, Accepted}
use Rattle.stage.proofs.Stays.{sound_taken, call_keeps, all_accepted}
use Rattle.dc_remover.specs.declared.DcRemover.{DcRemover}
use Rattle.dc_remover.specs.State.{made}
use Rattle.dc_remover.specs.Process.{mono_stage, pair_stage, process_mono, process, process_split, TakenByAll}
use Rattle.dc_remover.proofs.Sound.{mono_keeps, pair_keeps, made_sound, sound_for_pairs, sound_for_mono}

taken : (s : DcRemover) → Sound pair_stage s → TakenByAll s
taken s h = (sound_taken mono_stage mono s (sound_for_mono s h), sound_taken pair_stage interleaved s h, sound_taken pair_stage split s h)

pub new_stays : (alpha : Float) → (made alpha).refusal ≡ NONE → TakenByAll (made alpha).state
new_stays alpha e = taken (made alpha).state (made_sound alpha e)

pub mono_stays : (s : DcRemover) (xs : List Float) → (process_mono s xs).refusal ≡ NONE → TakenByAll (process_mono s xs).state
mono_stays s xs e = taken _ (sound_for_pairs _ (call_keeps mono_stage mono mono_keeps s xs e))

pub interleaved_stays : (s : DcRemover) (xs : List Float) → (process s xs).refusal ≡ NONE → TakenByAll (process s xs).state
interleaved_stays s xs e = taken _ (call_keeps pair_stage interleaved pair_keeps s xs e)

pub split_stays : (s : DcRemover) (b : List Float × List Float) → (process_split s b).refusal ≡ NONE → TakenByAll (process_split s b).state
split_stays s b e = taken _ (call_keeps pair_stage split pair_keeps s b e)

-- so all calls after one of its kind are accepted whose slices meet the demands
pub mono_accepted : (s : DcRemover) (xs : List Float) (bs : List (List Float)) → (process_mono s xs).refusal ≡ NONE → Fit mono bs → Accepted mono_stage mono (process_mono s xs).state bs
mono_accepted s xs bs e f = all_accepted mono_stage mono mono_keeps _ bs (call_keeps mono_stage mono mono_keeps s xs e) f

pub interleaved_accepted : (s : DcRemover) (xs : List Float) (bs : List (List Float)) → (process s xs).refusal ≡ NONE → Fit interleaved bs
    → Accepted pair_stage interleaved (process s xs).state bs
interleaved_accepted s xs bs e f = all_accepted pair_stage interleaved pair_keeps _ bs (call_keeps pair_stage interleaved pair_keeps s xs e) f

pub split_accepted : (s : DcRemover) (b : List Float × List Float) (bs : List (List Float × List Float)) → (process_split s b).refusal ≡ NONE → Fit split bs
    → Accepted pair_stage split (process_split s b).state bs
split_accepted s b bs e f = all_accepted pair_stage split pair_keeps _ bs (call_keeps pair_stage split pair_keeps s b e) f
