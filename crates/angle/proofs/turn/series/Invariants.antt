-- `angle::turn::series` meets its contract. The loop's invariant: t is the series over the last k divisors. Assumes nothing.
use Rattle.std.proofs.Common.{◌≡◌, ◌-◌, length, drop}
use Rattle.angle.specs.Turn.{nested}
use Rattle.angle.proofs.turn.series.Given as goal

abbrev pub invariant-loop-k : goal.invariant-loop-k
invariant-loop-k l = l.t ≡ nested l.z (drop (length l.divisors - l.k) l.divisors)
