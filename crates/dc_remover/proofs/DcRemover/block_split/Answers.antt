-- `dc_remover::DcRemover::block_split` meets its contract: what the pairs' run leaves of I and Q put together, taken apart, is what the run over two slices leaves. Assumes nothing.
use Prim.Native.Nat.{◌+◌, ◌*◌}
use native.Mathlib.Omega.{arith}
use mathlib.Core.Path.{◌≡◌, sym}
use lib.ListN.{length, take, replicate, length-take}
use Rattle.stage.specs.Call.{gave}
use Rattle.stage.specs.Floats.{plus_zero}
use Rattle.halves.proofs.Lengths.{apart_gives, together_gives}
use Rattle.stage.proofs.SplitParts.{split_as_interleaved}
use Rattle.dc_remover.specs.Process.{pair_stage}
use Rattle.dc_remover.proofs.DcRemover.block_split.Goals as goal

pub returns : goal.returns
returns c =
    let a = c.args in
    let r = c.block_pairs-ran.result in
    let z = c.block_pairs-ran.new.«data» in
    let n = rw length-take at c.join.auto.output in
    let many : length a.q.now ≡ length a.i.now = omega arith in
    let put = together_gives a.i.now a.q.now (take (2 * length a.i.now) (replicate 32 plus_zero)) c.join.new.output (omega arith) many c.join.ensures in
    let full : length z ≡ length a.i.now + length a.i.now = omega arith in
    let apart = apart_gives z a.i.now a.q.now _ _ full many c.split.ensures in
    rw (apart.0, apart.1) (split_as_interleaved pair_stage a.self a.i.now a.q.now (gave r.state r.struck z) (sym many) (rw put at c.block_pairs-ran.ensures))
