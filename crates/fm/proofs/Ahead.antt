-- The angles of all pairs first, then the feedback over them in place: what that leaves is what a run over the pairs gives. Assumes nothing.
use Prim.Native.Nat.{◌/◌}
use mathlib.Core.Path.{◌≡◌, refl, ap, ◌∙◌}
use mathlib.Core.List.{List, ◌++◌, map}
use lib.ListN.{length, drop, length-map}
use lib.Ieee.{Float}
use Rattle.stage.specs.Floats.{plus_zero}
use Rattle.stage.specs.Run.{outs}
use Rattle.stage.specs.Layout.{pairs}
use Rattle.stage.specs.Into.{Put, ran_into}
use Rattle.stage.proofs.Layouts.{length_pairs}
use Rattle.stage.proofs.Run.{length_outs}
use Rattle.stage.proofs.Alone.{outs_alone, end_alone, strikes_alone}
use Rattle.fm.specs.declared.FmDemodulator.{FmDemodulator}
use Rattle.fm.specs.declared.FmDone.{FmDone}
use Rattle.fm.specs.Step.{angle_of, fm_answer, from_angle}
use Rattle.fm.specs.Process.{put, fm_stage, followed}

-- the places behind the run, which stay
abbrev before : List Float → Put Float FmDemodulator → Put Float FmDemodulator
before rest p = record { refusal = p.refusal; state = p.state; count = p.count; struck = p.struck; left = p.left ++ rest }

-- `os` stands in the first places once the feedback is done
pub ahead : (s : FmDemodulator) (input output os : List Float) (r : FmDone) → put r os ≡ followed s (map angle_of (pairs input))
    → put r (os ++ drop (length input / 2) output) ≡ ran_into fm_stage s input output
ahead s input output os r gave =
    let n = length input / 2 in
    let long : length (map angle_of (pairs input)) ≡ n = length-map (pairs input) angle_of ∙ length_pairs input in
    let os-long : length (outs fm_answer plus_zero s (pairs input)) ≡ n = length_outs fm_answer plus_zero s (pairs input) ∙ length_pairs input in
    ap (before (drop n output)) gave
    ∙ rw (os-long, long, outs_alone fm_answer from_angle angle_of (λ t p. refl) plus_zero s (pairs input), end_alone fm_answer from_angle angle_of (λ t p. refl) s (pairs input), strikes_alone fm_answer from_angle angle_of (λ t p. refl) s (pairs input))
