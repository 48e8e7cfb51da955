-- What number 0 says of a receiver and of the lengths of what it is lent. Assumes nothing.
use Prim.Native.Nat.{ℕ, ◌/◌, ◌%◌, ◌≤◌}
use mathlib.Core.Path.{◌≡◌}
use mathlib.Core.Bool.{true, ◌&&◌}
use lib.Dec.{eqb, leb, ltb}
use borrow.Author.Tests.{eqb-true, leb-true, ltb-true}
use Rattle.stage.specs.Length.{is_even}
use Rattle.stage.proofs.Both.{both}
use Rattle.stage.proofs.Refusals.{met}
use Rattle.fm.specs.State as fm-state
use Rattle.receiver.specs.Rules.{setting_met, state_met, lengths_fit}
use Rattle.receiver.specs.Making.{new_refusal}
use Rattle.receiver.specs.Receive.{heard_of, receive_refusal}
use Rattle.receiver.specs.Ready.{Ready}
use Rattle.receiver.specs.declared.Receiver.{Receiver}

module _ (taps i q : ℕ) where
  fit : lengths_fit taps i q ≡ true → (taps ≡ 121) × (i ≡ 120) × (q ≡ 120)
  fit e =
      let two = both (eqb taps 121 && eqb i 120) (eqb q 120) e in
      let one = both (eqb taps 121) (eqb i 120) two.0 in
      (eqb-true taps 121 one.0, eqb-true i 120 one.1, eqb-true q 120 two.1)

  pub lengths_met : new_refusal taps i q ≡ 0 → (taps ≡ 121) × (i ≡ 120) × (q ≡ 120)
  lengths_met e = fit (met true true true (lengths_fit taps i q) true e).length

  -- a block that is not refused, and the room for what it gives
  pub ready : (r : Receiver) (n room : ℕ) → receive_refusal r taps i q n room ≡ 0 → Ready r taps i q n × (heard_of r.phase n ≤ room / 4)
  ready r n room e =
      let m = met (setting_met r) (state_met r) (leb n 8192) (is_even n && lengths_fit taps i q) (leb (heard_of r.phase n) (room / 4)) e in
      let s = both (ltb r.phase 10) (fm-state.setting_met r.fm) m.setting in
      let l = both (is_even n) (lengths_fit taps i q) m.length in
      let f = fit l.1 in (
        record {
          phase = ltb-true r.phase 10 s.0;
          setting = s.1;
          state = m.state;
          taps_long = f.0;
          i_long = f.1;
          q_long = f.2;
          whole = eqb-true (n % 2) 0 l.0;
          short = leb-true n 8192 m.limit;
        },
        leb-true (heard_of r.phase n) (room / 4) m.room,
      )
