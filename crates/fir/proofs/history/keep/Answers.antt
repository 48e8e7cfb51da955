-- `fir::history::keep` meets its contract: the block is at least as long as the history, or it is not. Assumes nothing.
use mathlib.Core.Path.{◌≡◌, ◌∙◌}
use Prim.Native.Nat.{◌-◌}
use native.Mathlib.Omega.{arith}
use lib.ListN.{length}
use Rattle.fir.proofs.history.Over.{keep_long, keep_short, moves}
use Rattle.fir.proofs.Grown.{put_tail}
use Rattle.std.proofs.lemmas.List.{take_rest}
use Rattle.fir.proofs.history.keep.Goals as goal

pub returns-then-h-n : goal.returns-then-h-n
returns-then-h-n c =
    let a = c.args in
    c.copy.ensures ∙ keep_long a.history.now a.input.now (omega arith)

pub loop-i-preserved : goal.loop-i-preserved
loop-i-preserved c =
    let l = c.loop-i in
    moves l.history c.args.history.now l.i (length c.args.input.now) l.invariant.0 l.invariant.1 (omega arith) l.auto.history

pub returns-after-loop-i : goal.returns-after-loop-i
returns-after-loop-i c =
    let h = c.args.history.now in
    let x = c.args.input.now in
    let l = c.loop-i in
    let m = length h - length x in
    let e : l.i ≡ m = omega arith in
    let moved = (rw e at l.invariant.0) ∙ take_rest h (length x) in
    put_tail m l.history c.copy-else-h-n.new.to ∙ rw (c.copy-else-h-n.ensures, moved) (keep_short h x (omega arith))
