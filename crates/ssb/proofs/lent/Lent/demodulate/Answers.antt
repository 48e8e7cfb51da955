-- `ssb::lent::Lent::demodulate` meets its contract: what each call leaves is a part of the definition. Assumes nothing.
use Prim.Native.Nat.{◌≤◌}
use native.Mathlib.Omega.{arith}
use mathlib.Core.Path.{◌≡◌, ◌∙◌}
use lib.ListN.{length}
use Rattle.halves.proofs.Lengths.{apart_gives}
use Rattle.ssb.specs.Sideband.{ssb_outs}
use Rattle.ssb.proofs.run.Summing.{summed}
use Rattle.ssb.proofs.lent.Lent.demodulate.Goals as goal

pub returns-clause-outputs : goal.returns-clause-outputs
unfolding ssb_outs
returns-clause-outputs c =
    let a = c.args in
    let q = c.split.new.q in
    let short : length q ≤ 256 = omega (arith, c.split.auto, c.requires) in
    let fill : length a.output.now ≡ length q = omega (arith, c.split.auto, c.requires) in
    let w = summed a.self.now.taps.now a.self.now.q_history.now q a.output.now a.self.now.ready.sixty_five a.self.now.ready.sixty_four short fill
    c.process_into.result c.process_into.new.history c.process_into.new.output c.process_into.ensures in
    let apart = apart_gives a.input.now a.i.now a.q.now c.split.new.i q (omega (arith, c.requires)) (omega (arith, c.requires)) c.split.ensures in
    c.mix_delayed.ensures ∙ rw (w.1, apart.0, apart.1)
