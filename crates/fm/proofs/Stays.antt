-- No accepted call of the FM demodulator, no `new` and no `with_deemphasis` gives a state that a later call refuses with SETTING or STATE: alpha stays from 0 to 1,
-- and the stored floats stay finite. Assumes nothing.
use mathlib.Core.Path.{◌≡◌}
use mathlib.Core.Bool.{true, ◌&&◌, and-eq-true_iff}
use mathlib.Core.List.{List}
use lib.Ieee.{Float}
use Rattle.stage.specs.Settings.{in_unit, is_positive, not_negative}
use Rattle.stage.specs.Refusal.{NONE}
use Rattle.stage.specs.Stage.{Sound}
use Rattle.stage.specs.IntoCalls.{TakenInto}
use Rattle.stage.proofs.Refusals.{met, run_gives}
use Rattle.stage.proofs.IntoStreams.{sound_taken_into, into_keeps}
use Rattle.fm.specs.declared.FmDemodulator.{FmDemodulator}
use Rattle.fm.specs.State.{setting_met, state_met, fresh, alpha_of, with_alpha, deemphasis_no, deemphasised}
use Rattle.fm.specs.Process.{fm_stage, process_into}
use Rattle.fm.proofs.Sound.{fm_keeps, fresh_sound}

pub new_stays : TakenInto fm_stage fresh.state
new_stays = sound_taken_into fm_stage fresh.state fresh_sound

pub process_stays : (s : FmDemodulator) (input output : List Float) → (process_into s input output).refusal ≡ NONE → TakenInto fm_stage (process_into s input output).state
process_stays s input output e = sound_taken_into fm_stage _ (into_keeps fm_stage fm_keeps s input output e)

-- the alpha that comes out was tested, and the stored floats are those that were
deemphasis_sound : (s : FmDemodulator) (rate tau : Float) → deemphasis_no s rate tau ≡ NONE → Sound fm_stage (with_alpha s (alpha_of rate tau))
unfolding deemphasis_no
deemphasis_sound s rate tau e =
    let given = is_positive rate && not_negative tau in
    let m = met (setting_met s && given && in_unit (alpha_of rate tau)) (state_met s) true true true e in
    record { setting = ((and-eq-true_iff (setting_met s && given) (in_unit (alpha_of rate tau))).0 m.setting).1; state = m.state }

pub deemphasis_stays : (s : FmDemodulator) (rate tau : Float) → (deemphasised s rate tau).refusal ≡ NONE → TakenInto fm_stage (deemphasised s rate tau).state
unfolding deemphasised
deemphasis_stays s rate tau e =
    rw (← run_gives (deemphasis_no s rate tau) (with_alpha s (alpha_of rate tau)) s e) (sound_taken_into fm_stage (with_alpha s (alpha_of rate tau)) (deemphasis_sound s rate tau e))
