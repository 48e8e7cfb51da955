-- What number 0 says of what a demodulator is lent. Assumes nothing.
use Prim.Native.Nat.{ℕ, ◌+◌, ◌/◌, ◌%◌}
use native.Mathlib.Omega.{arith}
use mathlib.Core.Path.{◌≡◌}
use mathlib.Core.Bool.{true, ◌&&◌}
use lib.Dec.{eqb, leb}
use borrow.Author.Tests.{eqb-true, leb-true}
use Rattle.stage.specs.Length.{LONGEST, is_within, is_even}
use Rattle.stage.proofs.Both.{both}
use Rattle.stage.proofs.Refusals.{met}
use Rattle.fir.specs.Filter.{history_fits}
use Rattle.hilbert.specs.Rules.{taps_allowed}
use Rattle.ssb.specs.Rules.{lengths_fit}
use Rattle.ssb.specs.Process.{process_refusal}
use Rattle.ssb.specs.Ready.{Ready, Block}

-- lengths that fit are those of SSB
ready : (taps q i : ℕ) → lengths_fit taps q i ≡ true → Ready taps q i
ready taps q i e =
    let two = both (eqb taps 65 && history_fits taps q) (eqb i 32) e in
    let one = both (eqb taps 65) (history_fits taps q) two.0 in
    let long = eqb-true taps 65 one.0 in
    let behind = eqb-true (q + 1) taps one.1 in
    record { sixty_five = long; sixty_four = omega arith; thirty_two = eqb-true i 32 two.1 }

pub process_ready : (taps q i n room : ℕ) → process_refusal taps q i n room ≡ 0 → Ready taps q i × Block n room
process_ready taps q i n room e =
    let m = met (taps_allowed taps) true (is_within n) (is_even n && lengths_fit taps q i) (leb (n / 2) room) e in
    let lengths = both (is_even n) (lengths_fit taps q i) m.length in (
      ready taps q i lengths.1,
      record {
        whole = eqb-true (n % 2) 0 lengths.0;
        short = leb-true n LONGEST m.limit;
        roomy = leb-true (n / 2) room m.room;
      },
    )
