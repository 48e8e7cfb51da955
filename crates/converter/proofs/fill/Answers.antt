-- `converter::fill` meets its contract: a turn writes the next sixteen values, or the next pair's. Assumes nothing.
use Prim.Native.Nat.{ℕ, ◌+◌, ◌*◌, ◌≤◌, ◌<◌}
use native.Mathlib.Omega.{arith}
use mathlib.Core.Path.{◌≡◌, refl, sym, ◌∙◌}
use lib.ListN.{length}
use lib.Lanes.{chunk}
use lib.Ieee.{binary32, sub, div, of_int, of_bits}
use Rattle.stage.proofs.Filling.{filling_begins, filling_turns}
use Rattle.converter.specs.Convert.{middle, sample_of, divided_by, in_pairs}
use Rattle.converter.proofs.Values.{pairs_length, next_pair}
use Rattle.converter.proofs.Sixteen.{values, sixteen, next_sixteen, filling_block}
use Rattle.converter.proofs.fill.Goals as goal

-- the byte's value, with 127.5 by its bits
of_i : (s : ℕ) → divided_by (of_bits binary32 0x42ff_0000) s ≡ sample_of s
unfolding divided_by sample_of of_bits
of_i s = refl

pub loop-k-init : goal.loop-k-init
loop-k-init c =
    let src = c.args.src.now in
    let f = divided_by c.args.q_by in
    filling_begins (in_pairs f src) c.args.dst.now (c.requires.0 ∙ sym (pairs_length f src c.requires.1))

pub loop-k-preserved : goal.loop-k-preserved
unfolding sub div of_int of_bits divided_by sample_of
loop-k-preserved c =
    let l = c.loop-k in
    let src = c.args.src.now in
    let f = divided_by c.args.q_by in
    let i = 16 * l.k in
    let here : i + 16 ≤ length src = omega arith in
    let next : 16 * (l.k + 1) ≡ i + 16 = omega arith in
    rw next
    (filling_block (in_pairs f (chunk i 16 src)) (values _ _ _ f middle c.args.q_by (λ s. refl) (λ s. refl) 8 (chunk i 16 src) (sixteen src i here))
    (omega (arith, pairs_length f (chunk i 16 src) (omega (arith, sixteen src i here)), sixteen src i here)) (rw (next_sixteen src i here f) at l.invariant))

pub loop-k-2-preserved : goal.loop-k-2-preserved
loop-k-2-preserved c =
    let l = c.loop-k-2 in
    let src = c.args.src.now in
    let f = divided_by c.args.q_by in
    let here : 2 * l.k + 1 < length src = omega arith in
    let e₁ : 2 * (l.k + 1) ≡ 2 * l.k + 1 + 1 = omega arith in
    let e₂ : 2 * l.k + 2 ≡ 2 * l.k + 1 + 1 = omega arith in
    rw (c.value-in-loop-k-2.ensures, c.value.ensures, of_i, e₁) (filling_turns (filling_turns (rw (next_pair f src (2 * l.k) here, e₂) at l.invariant)))
