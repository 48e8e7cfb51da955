-- Demand 3 of the audio gain control, cutting: however a stream is cut into accepted calls, each with the state that the one before gave back, they give
-- in a row what one run over the whole stream gives: every output, the last state, and the struck counts added up. Assumes nothing.
use mathlib.Core.Path.{◌≡◌}
use mathlib.Core.List.{List}
use lib.Ieee.{Float}
use Rattle.stage.specs.Lent.{mono}
use Rattle.stage.specs.Call.{ran}
use Rattle.stage.specs.Calls.{joined, Accepted, calls}
use Rattle.stage.proofs.Cuts.{mono_calls}
use Rattle.audio_agc.specs.declared.AudioAgc.{AudioAgc}
use Rattle.audio_agc.specs.Process.{audio_stage}

pub cut : (s : AudioAgc) (bs : List (List Float)) → Accepted audio_stage mono s bs → calls audio_stage mono s bs ≡ ran audio_stage mono s (joined mono bs)
cut s bs a = mono_calls audio_stage s bs a
