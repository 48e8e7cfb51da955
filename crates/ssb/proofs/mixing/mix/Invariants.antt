-- `ssb::mixing::mix` meets its contract. The loop's invariant: whichever sideband `of_sum` makes, the first k places are mixed, and what is to come is the mix of the rest. Assumes nothing.
use lib.ListN.{drop}
use Rattle.stage.proofs.Filling.{Filling}
use Rattle.ssb.specs.Sideband.{mixed}
use Rattle.ssb.specs.Ready.{Makes}
use Rattle.ssb.proofs.mixing.mix.Given as goal

abbrev pub invariant-loop-k : goal.invariant-loop-k
invariant-loop-k g l =
    (usb : _) → Makes (goal.F-post g l.of_sum) usb → Filling (mixed usb l.delayed l.initial.sums) l.k (mixed usb (drop l.k l.delayed) (drop l.k l.sums)) l.sums
