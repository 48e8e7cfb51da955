-- `fir::planar::Planar::chunk` meets its contract: the samples lie in the input or are gathered, and either way are those of history and input. Assumes nothing.
use mathlib.Core.Path.{◌≡◌, ap, ◌∙◌}
use mathlib.Core.List.{◌++◌}
use Prim.Native.Nat.{ℕ, ◌+◌, ◌*◌, ◌<◌, ◌≤◌}
use native.Mathlib.Omega.{arith}
use lib.ListN.{length, take, drop}
use lib.Seq.{length-take-le, take_at}
use Rattle.fir.specs.declared.work.Work.{Work}
use Rattle.fir.proofs.Places.{row_inside}
use Rattle.fir.proofs.gather.Gathered.{part_second, dots_part}
use Rattle.fir.proofs.planar.Planar.chunk.Goals as goal

-- the samples that m outputs span, from output j on, lie in history and input
spanned : (w : Work) (j m at n : ℕ) → 0 < m → j + m ≤ w.count → at ≡ w.phase + j * w.factor → n + w.factor ≡ m * w.factor + length w.taps.now
    → at + n ≤ length w.history.now + length w.input.now
spanned w j m at n any few is span =
    omega (arith, w.fit, row_inside w.factor w.phase (length w.input.now) w.count j m at w.some w.is any few is)

pub slice_bounds-block-end : goal.slice_bounds-block-end
slice_bounds-block-end c =
    let within = spanned c.args.self.now.work c.args.j (length c.args.output.now) c.place-at.result c.span-n.result (omega arith) (omega arith) c.place-at.ensures.0 c.span-n.ensures.spans in
    omega arith

pub across-requires : goal.across-requires
across-requires c =
    let w = c.args.self.now.work in
    let n = c.span-n.result in
    let within = spanned w c.args.j (length c.args.output.now) c.place-at.result n (omega arith) (omega arith) c.place-at.ensures.0 c.span-n.ensures.spans in
    let long : length (take n c.args.e.now) ≡ n = length-take-le n c.args.e.now (omega arith) in
    record { before = omega arith; behind = omega (arith, w.fit); within = omega arith }

pub returns-then-h-at : goal.returns-then-h-at
returns-then-h-at c =
    let w = c.args.self.now.work in
    let n = c.span-n.result in
    let at = c.place-at.result in
    c.block.ensures
    ∙ rw (part_second w.history.now w.input.now at n (omega arith))
    (dots_part w.taps.now (w.history.now ++ w.input.now) w.phase w.factor c.args.j at (length c.args.output.now) n c.place-at.ensures.0 c.span-n.ensures.spans)

pub returns-else-h-at : goal.returns-else-h-at
returns-else-h-at c =
    let w = c.args.self.now.work in
    let n = c.span-n.result in
    let at = c.place-at.result in
    let x = w.history.now ++ w.input.now in
    let e = c.across.new.e in
    let long : length (take n c.args.e.now) ≡ n = length-take-le n c.args.e.now (omega arith) in
    let seen : e ≡ take n (drop at x) = c.across.ensures ∙ ap (λ (k : ℕ). take k (drop at x)) long in
    c.block-else-h-at.ensures
    ∙ rw (take_at e _ n (c.across.auto.e ∙ long), seen)
    (dots_part w.taps.now x w.phase w.factor c.args.j at (length c.args.output.now) n c.place-at.ensures.0 c.span-n.ensures.spans)
