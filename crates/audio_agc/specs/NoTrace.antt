-- What it means that a burst in the middle of a call leaves no trace in the audio gain control. Definitions only.
use Rattle.std.specs.Prelude.{◌+◌, ◌≡◌, List, ◌++◌, length, replicate, Float}
use Rattle.stage.specs.Floats.{plus_zero}
use Rattle.stage.specs.Refusal.{NONE}
use Rattle.audio_agc.specs.declared.AudioAgc.{AudioAgc}
use Rattle.audio_agc.specs.Process.{process}

-- Let `a` be the call on what comes before the burst, and `b` the call on what comes after it, from a's state. Without the burst the call gives
-- a and then b. With it: the same state, the same outputs before and after, 0.0 for each sample of the burst, and each of them counted.
abbrev pub NoTrace : AudioAgc → List Float → List Float → List Float → Type 0
NoTrace s before burst after =
    let a = process s before in
    let b = process a.state after in
    (process s (before ++ after) ≡ record { refusal = NONE; state = b.state; struck = a.struck + b.struck; left = a.left ++ b.left })
    × (process s (before ++ (burst ++ after))
    ≡ record {
      refusal = NONE;
      state = b.state;
      struck = a.struck + (length burst + b.struck);
      left = a.left ++ (replicate (length burst) plus_zero ++ b.left);
    })
