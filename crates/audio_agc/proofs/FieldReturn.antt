-- The field return, as a promise: a burst of bad samples in the middle of a stream leaves no trace. What came before it and what comes after it is put
-- out bit for bit as if the burst had not been there, and so is the state at the end; the burst itself is silence, and is counted. Assumes nothing.
use mathlib.Core.Path.{◌≡◌}
use mathlib.Core.List.{List, ◌++◌}
use lib.Ieee.{Float}
use Rattle.stage.specs.Refusal.{NONE}
use Rattle.stage.specs.Lent.{mono}
use Rattle.stage.specs.Burst.{NoneFinite, EachStruck}
use Rattle.stage.proofs.Burst.{mono_burst, before_accepted}
use Rattle.stage.proofs.Stays.{call_keeps}
use Rattle.audio_agc.specs.declared.AudioAgc.{AudioAgc}
use Rattle.audio_agc.specs.Step.{audio_step}
use Rattle.audio_agc.specs.Process.{audio_stage, process}
use Rattle.audio_agc.specs.NoTrace.{NoTrace}
use Rattle.audio_agc.proofs.Sound.{audio_keeps}
use Rattle.audio_agc.proofs.Struck.{none_finite_struck}

-- any samples that the stage strikes where they come, also finite ones that are too large for it
pub struck_leave_no_trace : (s : AudioAgc) (before burst after : List Float) → (process s (before ++ (burst ++ after))).refusal ≡ NONE
    → EachStruck audio_step (process s before).state burst → NoTrace s before burst after
struck_leave_no_trace s before burst after e k = mono_burst audio_stage audio_keeps s before burst after k e

-- so NaNs and infinities, as many as there are
pub burst_leaves_no_trace : (s : AudioAgc) (before burst after : List Float) → (process s (before ++ (burst ++ after))).refusal ≡ NONE → NoneFinite burst → NoTrace s before burst after
burst_leaves_no_trace s before burst after e n =
    let taken = before_accepted audio_stage audio_keeps s before (burst ++ after) e in
    let h = call_keeps audio_stage mono audio_keeps s before taken in
    struck_leave_no_trace s before burst after e (none_finite_struck (process s before).state burst h n)
