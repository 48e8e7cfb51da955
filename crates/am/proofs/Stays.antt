-- No accepted call of the AM demodulator, and no `new`, gives a state that a later call refuses with SETTING or STATE: the weights stay from 0 to 1, and the
-- stored floats stay finite. Assumes nothing.
use mathlib.Core.Path.{◌≡◌}
use mathlib.Core.List.{List}
use lib.Ieee.{Float}
use Rattle.stage.specs.Refusal.{NONE}
use Rattle.stage.specs.IntoCalls.{TakenInto}
use Rattle.stage.proofs.IntoStreams.{sound_taken_into, into_keeps}
use Rattle.am.specs.declared.AmDemodulator.{AmDemodulator}
use Rattle.am.specs.State.{fresh}
use Rattle.am.specs.Process.{am_stage, process_into}
use Rattle.am.proofs.Sound.{am_keeps, fresh_sound}

pub new_stays : TakenInto am_stage fresh.state
new_stays = sound_taken_into am_stage fresh.state fresh_sound

pub process_stays : (s : AmDemodulator) (input output : List Float) → (process_into s input output).refusal ≡ NONE → TakenInto am_stage (process_into s input output).state
process_stays s input output e = sound_taken_into am_stage _ (into_keeps am_stage am_keeps s input output e)
