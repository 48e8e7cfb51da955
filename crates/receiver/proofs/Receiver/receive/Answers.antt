-- `Receiver::receive` meets its contract: the part of the output that is lent is as long as the sound, and no longer than a block's. Assumes nothing.
use Prim.Native.Nat.{◌≤◌, ◌*◌, ◌/◌}
use native.Mathlib.Omega.{arith}
use mathlib.Core.Path.{◌≡◌, sym}
use lib.ListN.{length, take}
use lib.Seq.{length-take-le}
use Rattle.receiver.specs.Receive.{heard_of, receive_refusal}
use Rattle.receiver.proofs.Lengths.{few}
use Rattle.receiver.proofs.Accepted.{ready}
use Rattle.receiver.proofs.Receiver.receive.Goals as goal

pub play-state-requires-clause-room : goal.play-state-requires-clause-room
play-state-requires-clause-room c =
    let a = c.args in
    let m = c.count-m.result in
    let none : 0 ≡ receive_refusal a.self (length a.taps.now) (length a.i_history.now) (length a.q_history.now) (length a.input.now) (length a.output.now) = rw (c.lengths_fit.ensures, c.even.ensures, c.state.ensures, c.setting.ensures, c.count-m.ensures) at c.in_default.ensures in
    let ok = ready (length a.taps.now) (length a.i_history.now) (length a.q_history.now) a.self (length a.input.now) (length a.output.now) (sym none) in
    let half : length a.input.now / 2 ≤ 4096 = omega (arith, (ok).0.short) in
    let heard : heard_of a.self.phase (length a.input.now) ≤ 410 = few a.self.phase (length a.input.now / 2) half in
    let as-long : length (take (4 * m) a.output.now) ≡ 4 * m = length-take-le (4 * m) a.output.now (omega (arith, ok.1, c.count-m.ensures)) in
    (omega (arith, as-long, c.count-m.ensures), omega (arith, as-long, heard, c.count-m.ensures))
