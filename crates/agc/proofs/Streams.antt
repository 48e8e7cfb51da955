-- Demand 3 of the gain control, cutting: however a stream is cut into accepted calls, each with the state that the one before gave back, they give
-- in a row what one run over the whole stream gives: every output, the last state, and the struck counts added up. Assumes nothing.
use mathlib.Core.Path.{◌≡◌}
use mathlib.Core.List.{List}
use lib.Ieee.{Float}
use Rattle.stage.specs.Lent.{interleaved}
use Rattle.stage.specs.Call.{ran}
use Rattle.stage.specs.Calls.{joined, Accepted, calls}
use Rattle.stage.proofs.Cuts.{interleaved_calls}
use Rattle.agc.specs.declared.Agc.{Agc}
use Rattle.agc.specs.Process.{agc_stage}

-- an accepted block is whole pairs
pub cut : (s : Agc) (bs : List (List Float)) → Accepted agc_stage interleaved s bs → calls agc_stage interleaved s bs ≡ ran agc_stage interleaved s (joined interleaved bs)
cut s bs a = interleaved_calls agc_stage s bs a
