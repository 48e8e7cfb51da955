-- Demand 3 of the DC remover, cutting: however a stream is cut into accepted calls, each with the state that the one before gave back, they give
-- in a row what one run over the whole stream gives: every output, the last state, and the struck counts added up. Assumes nothing.
use mathlib.Core.Path.{◌≡◌}
use mathlib.Core.List.{List}
use lib.Ieee.{Float}
use Rattle.stage.specs.Lent.{mono, interleaved, split}
use Rattle.stage.specs.Call.{ran}
use Rattle.stage.specs.Calls.{joined, Whole, Accepted, calls}
use Rattle.stage.proofs.Cuts.{mono_calls, interleaved_calls, split_calls}
use Rattle.dc_remover.specs.declared.DcRemover.{DcRemover}
use Rattle.dc_remover.specs.Process.{mono_stage, pair_stage}

-- mono, cut anywhere
pub mono_cut : (s : DcRemover) (bs : List (List Float)) → Accepted mono_stage mono s bs → calls mono_stage mono s bs ≡ ran mono_stage mono s (joined mono bs)
mono_cut s bs a = mono_calls mono_stage s bs a

-- interleaved: an accepted block is whole pairs
pub interleaved_cut : (s : DcRemover) (bs : List (List Float)) → Accepted pair_stage interleaved s bs
    → calls pair_stage interleaved s bs ≡ ran pair_stage interleaved s (joined interleaved bs)
interleaved_cut s bs a = interleaved_calls pair_stage s bs a

-- two slices, cut at the same places
pub split_cut : (s : DcRemover) (bs : List (List Float × List Float)) → Accepted pair_stage split s bs → Whole split bs
    → calls pair_stage split s bs ≡ ran pair_stage split s (joined split bs)
split_cut s bs a w = split_calls pair_stage s bs a w
