-- `fir::planar::Planar::block` meets its contract: the windows of its outputs lie in x. Assumes nothing.
use Prim.Native.Nat.{◌+◌}
use native.Mathlib.Omega.{arith}
use lib.ListN.{length}
use Rattle.fir.specs.Written.{dots_of}
use Rattle.fir.proofs.Places.{window_fits}
use Rattle.fir.proofs.planar.Planar.block.Goals as goal

pub returns : goal.returns
returns c =
    let w = c.args.self.now.work in
    let x = c.args.x.now in
    let same = c.fill-planes.ensures in
    c.by_32.ensures (dots_of w.taps.now x w.factor)
    (λ g r lt given.
    let post = (rw (same.0, same.1) at given) in (
      post.0,
      λ i h below.
          post.1 i h (window_fits w.factor (g + i) (length c.args.output.now) (length w.taps.now) (length x) below (omega (arith, c.requires))),
    ))
