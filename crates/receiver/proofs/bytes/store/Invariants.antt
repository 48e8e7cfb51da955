-- `receiver::bytes::store` meets its contract. The loop's invariant: the places of the first k floats hold their bytes, and those of the rest are
-- to come. Assumes nothing.
use Prim.Native.Nat.{◌*◌}
use mathlib.Core.Path.{◌≡◌}
use lib.ListN.{length, drop}
use Rattle.stage.proofs.Filling.{Filling}
use Rattle.receiver.specs.Bytes.{little_endian}
use Rattle.receiver.proofs.bytes.store.Given as goal

abbrev pub invariant-loop-k : goal.invariant-loop-k
invariant-loop-k l =
    (length l.output ≡ length l.initial.output) × Filling (little_endian l.xs) (4 * l.k) (little_endian (drop l.k l.xs)) l.output
