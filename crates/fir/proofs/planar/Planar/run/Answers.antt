-- `fir::planar::Planar::run` meets its contract. Assumes nothing.
use mathlib.Core.Path.{ap, ◌∙◌}
use Prim.Native.Nat.{◌*◌}
use native.Mathlib.Omega.{arith}
use Rattle.stage.specs.Counted.{counted}
use Rattle.fir.specs.Written.{output_of}
use Rattle.fir.proofs.Grown.{part_is, grows_to, all_grown}
use Rattle.fir.proofs.planar.Planar.run.Goals as goal

pub loop-b-preserved : goal.loop-b-preserved
loop-b-preserved g c =
    let l = c.loop-b in
    let k = c.chunk in
    let j = 64 * l.b in
    let v = output_of c.args.self.now.work in
    let end = c.min-end.result in
    let ys = part_is v l.output k.new.output j end (omega arith) k.ensures in
    (k.auto.z ∙ l.invariant.0, k.auto.e ∙ l.invariant.1, grows_to v l.output _ j l.auto.output l.invariant.2 k.new.output 64 end _ (omega arith) (omega arith) (omega arith) ys)

pub returns : goal.returns
returns g c = let l = c.loop-b in all_grown _ l.output _ (64 * l.b) l.auto.output l.invariant.2 (omega arith) ∙ ap (counted (output_of c.args.self.now.work)) c.requires.count
