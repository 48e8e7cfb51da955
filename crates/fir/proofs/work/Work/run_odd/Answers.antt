-- `fir::work::Work::run_odd` meets its contract. Assumes nothing.
use Prim.Native.Nat.{◌*◌}
use native.Mathlib.Omega.{arith}
use Rattle.fir.specs.Written.{odd_of}
use Rattle.fir.proofs.Grown.{part_is, grows_to, all_grown}
use Rattle.fir.proofs.work.Work.run_odd.Goals as goal

pub loop-b-preserved : goal.loop-b-preserved
loop-b-preserved c =
    let l = c.loop-b in
    let j = 256 * l.b in
    let v = odd_of c.args.self.now in
    let end = c.min-end.result in
    let out = c.chunk_odd.new.output in
    let ys = part_is v l.output out j end (omega arith) c.chunk_odd.ensures in
    (c.chunk_odd.array_long, grows_to v l.output _ j l.auto.output l.invariant.1 out 256 end _ (omega arith) (omega arith) (omega arith) ys)

pub returns : goal.returns
returns c = let l = c.loop-b in all_grown _ l.output _ (256 * l.b) l.auto.output l.invariant.1 (omega arith)
