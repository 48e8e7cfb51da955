-- Demand 1 of the receiver, the demo's work, call by call: the numbers by the table's order, and what a refusal leaves. Assumes nothing.
use Prim.Native.Nat.{ℕ, ◌/◌}
use mathlib.Core.Path.{refl}
use mathlib.Core.Bool.{true, ◌&&◌}
use mathlib.Core.List.{List}
use lib.Dec.{eqb, leb, ltb}
use lib.ListN.{length}
use lib.Ieee.{Float}
use Rattle.stage.specs.Length.{is_even}
use Rattle.fir.specs.Filter.{count_of}
use Rattle.fm.specs.State as fm-state
use Rattle.receiver.specs.Answers.{none}
use Rattle.receiver.specs.Making as receiver-making
use Rattle.receiver.specs.Receive as receiver
use Rattle.receiver.specs.declared.Receiver.{Receiver}
use Rattle.promises.specs.Table.{demands, Refuses}
use Rattle.promises.proofs.Table.{refuses}

pub receiver_new : (taps i q : List Float)
    → Refuses (demands true true true (eqb (length taps) 121 && eqb (length i) 120 && eqb (length q) 120) true)
    (λ g. g.0.refusal) (receiver-making.made taps i q) (λ n. (record { refusal = n; state = none; count = 0 }, taps, i, q))
receiver_new taps i q = refuses _ refl (λ n. refl)

pub receiver_receive : (r : Receiver) (taps i q : List Float) (input output : List ℕ)
    → Refuses
    (demands (ltb r.phase 10 && fm-state.setting_met r.fm) (fm-state.state_met r.fm) (leb (length input) 8192)
    (is_even (length input) && (eqb (length taps) 121 && eqb (length i) 120 && eqb (length q) 120))
    (leb (count_of 10 r.phase (length input / 2)) (length output / 4)))
    (λ g. g.0.refusal) (receiver.received r taps i q input output) (λ n. (record { refusal = n; state = r; count = 0 }, i, q, output))
receiver_receive r taps i q input output = refuses _ refl (λ n. refl)
