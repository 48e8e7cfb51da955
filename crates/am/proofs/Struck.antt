-- Demand 3 of the AM demodulator, dropping: the call again without the pairs that it struck changes no other output and not the state at its end,
-- and strikes none. Assumes nothing.
use mathlib.Core.Path.{◌≡◌}
use mathlib.Core.List.{List}
use lib.Ieee.{Float}
use Rattle.stage.specs.Refusal.{NONE}
use Rattle.stage.specs.IntoCalls.{heard_of, kept_input, heard_without_struck}
use Rattle.stage.proofs.IntoStreams.{into_dropped}
use Rattle.am.specs.declared.AmDemodulator.{AmDemodulator}
use Rattle.am.specs.Process.{am_stage, process_into}

pub am_dropped : (s : AmDemodulator) (input output : List Float) → (process_into s input output).refusal ≡ NONE
    → heard_of (process_into s (kept_input am_stage s input) output) ≡ heard_without_struck am_stage s input (heard_of (process_into s input output))
am_dropped s input output e = into_dropped am_stage s input output e
