-- `angle::turn::series` meets its contract: one divisor more in front is one step more. Assumes nothing.
use Rattle.std.proofs.Common.{◌≡◌, ℕ, suc, ◌+◌, ◌-◌, ◌<◌, List, [], length, drop, get_or, sym, ap, ◌∙◌, arith, drop-cons}
use Rattle.std.proofs.lemmas.List.{drop_all}
use lib.Ieee.{Float}
use Rattle.angle.specs.Numbers.{whole}
use Rattle.angle.specs.Turn.{nested, step}
use Rattle.angle.proofs.turn.series.Goals as goal

none : (z : Float) (ds : List ℕ) → nested z [] ≡ nested z (drop (length ds - 0) ds)
none z ds = ap (nested z) (sym (drop_all (length ds - 0) ds (omega arith)))

next : (z t : Float) (ds : List ℕ) (k : ℕ) → k < length ds → t ≡ nested z (drop (length ds - k) ds)
    → step z t (get_or ds (length ds - 1 - k) 0) ≡ nested z (drop (length ds - (k + 1)) ds)
unfolding nested
next z t ds k h e =
    let i = length ds - (k + 1) in
    let l : i < length ds = omega arith in
    let j : length ds - k ≡ suc i = omega arith in
    let d : length ds - 1 - k ≡ i = omega arith in
    ap (λ (x : Float). step z x (get_or ds (length ds - 1 - k) 0)) (e ∙ ap (λ (x : ℕ). nested z (drop x ds)) j)
    ∙ ap (λ (x : ℕ). step z (nested z (drop (suc i) ds)) (get_or ds x 0)) d
    ∙ sym (ap (nested z) (drop-cons ds i 0 l))

pub loop-k-init : goal.loop-k-init
unfolding nested
loop-k-init c = none c.args.z c.args.divisors.now

pub loop-k-preserved : goal.loop-k-preserved
unfolding step whole
loop-k-preserved c = next c.args.z c.loop-k.t c.args.divisors.now c.loop-k.k c.loop-k-test.true c.loop-k.invariant
