-- `fir::work::Work::chunk_odd` meets its contract: the windows of the samples that are gathered are those of history and input. Assumes nothing.
use mathlib.Core.Path.{◌≡◌, ap, ◌∙◌}
use mathlib.Core.List.{◌++◌}
use Prim.Native.Nat.{ℕ, ◌+◌, ◌≤◌}
use native.Mathlib.Nat.{zero-add}
use native.Mathlib.Omega.{arith}
use lib.ListN.{length, length-append, take, drop}
use lib.Seq.{length-take-le}
use Rattle.stage.proofs.Counted.{counted_same}
use Rattle.fir.specs.Written.{odd_at}
use Rattle.fir.proofs.odd.Odd.{odd_part}
use Rattle.fir.proofs.work.Work.chunk_odd.Goals as goal

pub returns : goal.returns
returns c =
    let w = c.args.self.now in
    let j = c.args.j in
    let m = length c.args.output.now in
    let x = w.history.now ++ w.input.now in
    let n = m + length w.history.now in
    let long : length (take n c.args.e.now) ≡ n = length-take-le n c.args.e.now (omega (arith, c.requires, w.fit)) in
    let seen : c.gather.new.e ≡ take n (drop j x) = c.gather.ensures ∙ ap (λ (k : ℕ). take k (drop j x)) long in
    let within : j + n ≤ length x = rw length-append (omega (arith, c.requires)) in
    c.block_odd.ensures
    ∙ counted_same _ (odd_at w.taps.now x) 0 j m
    (λ l lt. rw (seen, zero-add) (odd_part w.taps.now x _ j n l (omega (arith, c.requires, w.fit)) within))
