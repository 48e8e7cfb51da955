-- `ssb::lent::Lent::run` meets its contract: a chunk more keeps what the loop knows. Assumes nothing.
use Prim.Native.Nat.{◌+◌, ◌-◌, ◌*◌, ◌/◌, ◌<◌, min}
use native.Mathlib.Omega.{arith}
use mathlib.Core.Path.{◌≡◌}
use lib.ListN.{length}
use Rattle.ssb.specs.Lent.{held}
use Rattle.ssb.proofs.run.Chunks.{chunks_go_on, chunks_end}
use Rattle.ssb.proofs.run.Places.{same_again}
use Rattle.ssb.proofs.lent.Lent.run.Goals as goal

pub loop-k-preserved : goal.loop-k-preserved
loop-k-preserved c =
    let l = c.loop-k in
    let s = l.invariant.same in
    let a = c.args in
    let m = c.min-m.result in
    let n = length a.input.now / 2 in
    let here : 256 * l.k < n = omega (arith, c.div_ceil-k-end.ensures) in
    let done : min (256 * l.k) n ≡ 256 * l.k = omega arith in
    let more : min (256 * (l.k + 1)) n ≡ 256 * l.k + m = omega (arith, c.min-m.ensures) in
    let twice : 2 * (256 * l.k + m) ≡ 2 * (256 * l.k) + 2 * m = omega arith in
    let part : 2 * (256 * l.k) + 2 * m - 2 * (256 * l.k) ≡ 2 * m = omega arith in
    record {
      same = same_again s c.chunk.ensures.same;
      chunks = rw (more, twice)
          (chunks_go_on a.self.now.is_usb a.self.now.taps.now m (held c.chunk.new.self) c.chunk.new.output (rw done at l.invariant.chunks) (omega (arith, c.min-m.ensures))
          (rw (twice, part, s.is_usb, s.taps) at c.chunk.ensures.outputs) (rw (twice, part) at c.chunk.ensures.histories_after)
          (omega (arith, c.chunk.ensures.same, l.invariant.chunks.ready)));
    }

pub returns-clause-outputs : goal.returns-clause-outputs
returns-clause-outputs c =
    let a = c.args in
    (chunks_end a.self.now.is_usb a.self.now.taps.now c.loop-k.invariant.chunks (omega (arith, c.div_ceil-k-end.ensures, c.requires))).0

pub returns-clause-histories_after : goal.returns-clause-histories_after
returns-clause-histories_after c =
    let a = c.args in
    (chunks_end a.self.now.is_usb a.self.now.taps.now c.loop-k.invariant.chunks (omega (arith, c.div_ceil-k-end.ensures, c.requires))).1
