-- Demand 3 of the AM demodulator, cutting: however a stream is cut into accepted calls, each with the state that the one before gave back, they give
-- in a row what one run over all its pairs gives: every output, the last state, and the struck counts added up. Assumes nothing.
use mathlib.Core.Path.{◌≡◌}
use mathlib.Core.List.{List}
use lib.Ieee.{Float}
use Rattle.stage.specs.Layout.{pairs}
use Rattle.stage.specs.IntoCalls.{Handed, inputs, heard, AllTaken, calls_into}
use Rattle.stage.proofs.IntoStreams.{calls_heard, any_calls_heard}
use Rattle.am.specs.declared.AmDemodulator.{AmDemodulator}
use Rattle.am.specs.Process.{am_stage}

pub am_cut : (s : AmDemodulator) (hs : List (Handed Float)) → AllTaken am_stage s hs → calls_into am_stage s hs ≡ heard am_stage s (pairs (inputs hs))
am_cut s hs a = calls_heard am_stage s hs a

-- so two ways to cut one stream give the same
pub am_any_cut : (s : AmDemodulator) (hs ks : List (Handed Float)) → AllTaken am_stage s hs → AllTaken am_stage s ks → inputs hs ≡ inputs ks
    → calls_into am_stage s hs ≡ calls_into am_stage s ks
am_any_cut s hs ks a b e = any_calls_heard am_stage s hs ks a b e
