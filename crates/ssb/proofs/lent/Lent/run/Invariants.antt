-- `ssb::lent::Lent::run` meets its contract. The loop's invariant: the outputs of the pairs before chunk k are written, and from the histories
-- as they are the rest gives the rest. Assumes nothing.
use Prim.Native.Nat.{◌*◌, ◌/◌}
use lib.ListN.{length}
use Rattle.std.proofs.Common.{min}
use Rattle.ssb.specs.Lent.{Same, held}
use Rattle.ssb.proofs.run.Chunks.{Chunks}
use Rattle.ssb.proofs.lent.Lent.run.Given as goal

abbrev pub invariant-loop-k : goal.invariant-loop-k
invariant-loop-k l =
    let done = min (256 * l.k) (length l.input / 2) in
    record {
      same : Same l.initial.self l.self;
      chunks : Chunks l.initial.self.is_usb l.initial.self.taps.now (held l.initial.self) l.input l.initial.output (held l.self) l.output (2 * done) done;
    }
