-- `audio_agc::AudioAgc::process` meets its contract: its loop goes on by a block whose run is the definition's. Assumes nothing.
use Prim.Native.Nat.{◌*◌}
use Rattle.stage.specs.Lent.{mono}
use Rattle.stage.proofs.InParts.{PartLoop}
use Rattle.audio_agc.specs.Process.{audio_stage}
use Rattle.audio_agc.proofs.AudioAgc.process.Given as goal

abbrev pub invariant-loop-b : goal.invariant-loop-b
invariant-loop-b l = PartLoop audio_stage mono l.fn.self l.fn.«data» l.«data» l.self l.struck (32 * l.b)
