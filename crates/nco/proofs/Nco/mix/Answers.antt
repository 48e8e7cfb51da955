-- `nco::Nco::mix` may run: what is accepted is whole pairs. The rest is found. Assumes nothing.
use Rattle.std.proofs.Common.{true, sym, length}
use Rattle.stage.specs.Length.{is_within, is_even}
use Rattle.stage.proofs.Refusals.{met}
use Rattle.nco.specs.Rules.{increment_allowed, at_rest, mixing_refusal}
use Rattle.nco.proofs.Nco.mix.Goals as goal

pub run-end-requires : goal.run-end-requires
unfolding mixing_refusal
run-end-requires c =
    let s = c.args.self in
    let n = length c.args.iq.now in
    (met (increment_allowed s.phase_inc) (at_rest s) (is_within n) (is_even n) true (sym c.in_default.ensures)).length
