-- A filter with an output for each sample: its phase stays 0, so that the history is all that is held between two blocks. Definitions only.
use Rattle.std.specs.Prelude.{List}
use Rattle.fir.specs.Filter.{Filter, filter_outs}

-- the outputs of a block, as many as it has samples; the history after it is `kept history input`
abbrev pub each_outs : {X Y : Type 0} → Filter X Y → List X → List X → List Y
each_outs f history input = filter_outs f (record { phase = 0; history = history }) input
