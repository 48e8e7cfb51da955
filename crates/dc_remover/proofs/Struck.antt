-- Demand 3 of the DC remover, dropping: the call again without the samples or pairs that it struck changes no other output and not the state at its
-- end, and strikes none. What is not finite is always struck. Assumes nothing.
use mathlib.Core.Path.{◌≡◌}
use mathlib.Core.Bool.{false}
use mathlib.Core.List.{List}
use lib.Ieee.{Float, binary32}
use lib.Ieee.Scale.{finite}
use Rattle.stage.specs.Floats.{both_finite}
use Rattle.stage.specs.Refusal.{NONE}
use Rattle.stage.specs.Run.{struck}
use Rattle.stage.specs.Lent.{mono, interleaved, split}
use Rattle.stage.specs.Kept.{kept_of, without_struck}
use Rattle.stage.proofs.Lents.{mono_lawful, interleaved_lawful, split_lawful}
use Rattle.stage.proofs.Dropped.{call_dropped}
use Rattle.stage.proofs.NotFinite.{sub_not_finite, half_not_finite}
use Rattle.dc_remover.specs.declared.DcRemover.{DcRemover}
use Rattle.dc_remover.specs.Step.{mean_after, less_mean, mono_answer, pair_answer}
use Rattle.dc_remover.specs.Process.{mono_stage, pair_stage, process_mono, process, process_split}

pub mono_dropped : (s : DcRemover) (xs : List Float) → (process_mono s xs).refusal ≡ NONE
    → process_mono s (kept_of mono_stage mono s xs) ≡ without_struck mono_stage mono s xs (process_mono s xs)
mono_dropped s xs e = call_dropped mono_stage mono mono_lawful s xs e

pub interleaved_dropped : (s : DcRemover) (xs : List Float) → (process s xs).refusal ≡ NONE
    → process s (kept_of pair_stage interleaved s xs) ≡ without_struck pair_stage interleaved s xs (process s xs)
interleaved_dropped s xs e = call_dropped pair_stage interleaved interleaved_lawful s xs e

pub split_dropped : (s : DcRemover) (b : List Float × List Float) → (process_split s b).refusal ≡ NONE
    → process_split s (kept_of pair_stage split s b) ≡ without_struck pair_stage split s b (process_split s b)
split_dropped s b e = call_dropped pair_stage split split_lawful s b e

-- ---- a NaN or an infinity is struck, from whatever state

pub not_finite_struck : (s : DcRemover) (x : Float) → finite x ≡ false → mono_answer s x ≡ struck
unfolding mono_answer
not_finite_struck s x h = rw (sub_not_finite binary32 x (mean_after s.alpha s.avg_i x) h)

-- and so is a pair of which either half is one
pub not_finite_pair_struck : (s : DcRemover) (p : Float × Float) → both_finite p.0 p.1 ≡ false → pair_answer s p ≡ struck
unfolding pair_answer
not_finite_pair_struck s p h =
    let i = mean_after s.alpha s.avg_i p.0 in
    let q = mean_after s.alpha s.avg_q p.1 in
    rw (half_not_finite p.0 p.1 (less_mean s.alpha s.avg_i p.0) (less_mean s.alpha s.avg_q p.1) (sub_not_finite binary32 p.0 i) (sub_not_finite binary32 p.1 q) h)
