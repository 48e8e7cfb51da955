-- Demand 3 of the FM demodulator, cutting: however a stream is cut into accepted calls, each with the state that the one before gave back, they give
-- in a row what one run over all its pairs gives: every output, the last state, and the struck counts added up. Assumes nothing.
use mathlib.Core.Path.{◌≡◌}
use mathlib.Core.List.{List}
use lib.Ieee.{Float}
use Rattle.stage.specs.Layout.{pairs}
use Rattle.stage.specs.IntoCalls.{Handed, inputs, heard, AllTaken, calls_into}
use Rattle.stage.proofs.IntoStreams.{calls_heard, any_calls_heard}
use Rattle.fm.specs.declared.FmDemodulator.{FmDemodulator}
use Rattle.fm.specs.Process.{fm_stage}

pub fm_cut : (s : FmDemodulator) (hs : List (Handed Float)) → AllTaken fm_stage s hs → calls_into fm_stage s hs ≡ heard fm_stage s (pairs (inputs hs))
fm_cut s hs a = calls_heard fm_stage s hs a

-- so two ways to cut one stream give the same
pub fm_any_cut : (s : FmDemodulator) (hs ks : List (Handed Float)) → AllTaken fm_stage s hs → AllTaken fm_stage s ks → inputs hs ≡ inputs ks
    → calls_into fm_stage s hs ≡ calls_into fm_stage s ks
fm_any_cut s hs ks a b e = any_calls_heard fm_stage s hs ks a b e
