-- `fir::work::Work::run_plain` meets its contract. Assumes nothing.
use mathlib.Core.Path.{◌≡◌, sym, ap, ◌∙◌}
use Prim.Native.Nat.{ℕ, ◌+◌, ◌-◌, ◌*◌}
use native.Mathlib.Nat.{zero-add}
use native.Mathlib.Omega.{arith}
use lib.ListN.{take}
use borrow.Rule.Slice.PartMut.{put_mid}
use Rattle.stage.specs.Counted.{counted}
use Rattle.fir.specs.Written.{output_of}
use Rattle.fir.proofs.Grown.{grows, grows_by_one}
use Rattle.fir.proofs.work.Work.run_plain.Goals as goal

pub loop-k-preserved : goal.loop-k-preserved
loop-k-preserved c =
    let l = c.loop-k in
    let w = c.args.self.now in
    let j = 4 * l.k in
    let e : j + 4 ≡ 4 * (l.k + 1) = omega arith in
    let new = put_mid j (j + 4 - j) l.output c.copy_from_slice.new.self in
    let ys = c.copy_from_slice.ensures.after ∙ c.four.ensures in
    ap (λ (n : ℕ). take n new) (sym e) ∙ grows (output_of w) l.output c.copy_from_slice.new.self j (j + 4 - j) 4 l.invariant (omega arith) ys ∙ ap (counted (output_of w)) e

pub loop-j-preserved : goal.loop-j-preserved
loop-j-preserved c =
    let l = c.loop-j in
    let v = output_of c.args.self.now in
    rw c.output.ensures (rw zero-add at (grows_by_one v l.output 0 l.j l.invariant (omega arith)))
