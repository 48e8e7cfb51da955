-- `angle::rest::doubled` meets its contract. The loop's invariant: r is what the doublings so far leave. Assumes nothing.
use Rattle.std.proofs.Common.{◌≡◌, ◌*◌, ◌%◌, ◌^◌}
use Rattle.angle.proofs.rest.doubled.Given as goal

abbrev pub invariant-loop : goal.invariant-loop
invariant-loop l = l.r ≡ l.m * 2 ^ l.counter % 7074237752028440
