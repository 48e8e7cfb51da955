-- The delayed I in two parts, the history and then the block's own, each mixed with its part of the sums. Assumes nothing.
use Prim.Native.Nat.{ℕ, ◌+◌, ◌-◌, ◌≤◌}
use native.Mathlib.Omega.{arith}
use mathlib.Core.Path.{◌≡◌, sym, ap, ◌∙◌}
use mathlib.Core.Bool.{Bool}
use mathlib.Core.Logic.{◌⊎◌, inl, inr, ⊎_elim}
use mathlib.Core.List.{List, ◌++◌, append-nil}
use lib.ListN.{length, take, drop, length-append, length-drop, take-append-drop, drop_of_length-le}
use lib.Seq.{take_all, take_at, drop_at, take-append-le, take-append-add, length-take-le}
use borrow.Rule.Slice.PartMut.{put_mid}
use lib.Ieee.{Float}
use Rattle.fir.specs.Each.{each_outs}
use Rattle.ssb.specs.Sideband.{delay, mixed}
use Rattle.ssb.proofs.mixing.Delay.{delayed}
use Rattle.ssb.proofs.mixing.Mixed.{mixed_length, mixed_append}

-- the whole, once the part `&mut xs[m..]` is back with ys in it
put_tail : (m : ℕ) (xs ys : List Float) → put_mid m (length xs - m) xs ys ≡ take m xs ++ ys
put_tail m xs ys =
    let past : length (drop m xs) ≤ length xs - m = rw length-drop (omega arith) in
    rw (drop_of_length-le (drop m xs) past, append-nil ys)

-- the delayed I: the history's first m, and then the block's own
row : (m : ℕ) (h x : List Float) → length h ≡ 32 → (m ≡ length x) × (m ≤ 32) ⊎ (m ≡ 32) × (m ≤ length x)
    → take m h ++ take (length x - m) x ≡ each_outs (delay 32) h x
row m h x lh (inl w) =
    let none : length x - m ≡ 0 = omega (arith, w) in
    rw none (append-nil (take m h)) ∙ ap (λ (k : ℕ). take k h) w.0 ∙ sym (delayed 32 h x ∙ take-append-le (length x) h x (omega (arith, w)))
row m h x lh (inr w) =
    let n : length x ≡ length h + (length x - m) = omega (arith, w) in
    let past : length h ≤ m = omega (arith, w) in
    rw (take_all m h past) (sym (delayed 32 h x ∙ ap (λ (k : ℕ). take k (h ++ x)) n ∙ take-append-add h x (length x - m)))

-- `first` is the mix of the history's start with the first m sums, `rest` that of the block's own with the others
pub in_two : (usb : Bool) (m : ℕ) (h x sums first rest : List Float) → length h ≡ 32 → (m ≡ length x) × (m ≤ 32) ⊎ (m ≡ 32) × (m ≤ length x) → length x ≡ length sums
    → first ≡ mixed usb (take m h) (take m sums)
    → rest ≡ mixed usb (take (length x - m) x) (take (length (first ++ drop m sums) - m) (drop m (first ++ drop m sums)))
    → put_mid m (length (first ++ drop m sums) - m) (first ++ drop m sums) rest ≡ mixed usb (each_outs (delay 32) h x) sums
in_two usb m h x sums first rest lh which ls is-first is-rest =
    let short : (m ≤ length x) × (m ≤ 32) = ⊎_elim (λ w. (omega (arith, w), w.1)) (λ w. (w.1, omega (arith, w))) which in
    let front : length (take m h) ≡ length (take m sums) = length-take-le m h (omega (arith, short)) ∙ sym (length-take-le m sums (omega (arith, short))) in
    let long : length first ≡ m = ap length is-first ∙ mixed_length usb (take m h) (take m sums) front ∙ length-take-le m sums (omega (arith, short)) in
    let whole : length (drop m sums) ≤ length (first ++ drop m sums) - m = rw (length-append first (drop m sums), long) (omega arith) in
    put_tail m (first ++ drop m sums) rest
    ∙ rw (take_at first (drop m sums) m long, is-rest, drop_at first (drop m sums) m long, take_all (length (first ++ drop m sums) - m) (drop m sums) whole, is-first)
    (sym (mixed_append usb (take m h) (take m sums) (take (length x - m) x) (drop m sums) front)
    ∙ rw (row m h x lh which, take-append-drop m sums))
