-- `ssb::mixing::delay_and_mix` meets its contract: the history's part and the block's own. Assumes nothing.
use Prim.Native.Nat.{◌≤◌}
use native.Mathlib.Omega.{arith}
use mathlib.Core.Path.{◌≡◌}
use mathlib.Core.Logic.{◌⊎◌, inl, inr, ⊎_elim}
use lib.ListN.{length}
use Rattle.fir.proofs.Counting.{lt_or_ge}
use Rattle.ssb.proofs.mixing.Parts.{in_two}
use Rattle.ssb.proofs.mixing.delay_and_mix.Goals as goal

pub returns : goal.returns
returns g c usb makes =
    let a = c.args in
    let m = c.min-first.result in
    let n = length a.i.now in
    let which : (m ≡ n) × (m ≤ 32) ⊎ (m ≡ 32) × (m ≤ n) =
    ⊎_elim (λ lt. inl (omega (arith, c.min-first.ensures), omega (arith, c.min-first.ensures))) (λ ge. inr (omega (arith, c.min-first.ensures), omega (arith, c.min-first.ensures))) (lt_or_ge n 32) in
    in_two usb m a.i_history.now a.i.now a.output.now c.mix.new.sums c.mix-2.new.sums c.requires.lengths.0 which c.requires.lengths.1 (c.mix.ensures usb makes) (c.mix-2.ensures usb makes)
