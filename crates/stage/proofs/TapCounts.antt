-- What the rule on a filter's number of taps says. Assumes nothing.
use Prim.Native.Nat.{ℕ, ◌%◌, ◌≤◌}
use mathlib.Core.Path.{◌≡◌}
use mathlib.Core.Bool.{true, ◌&&◌}
use lib.Dec.{eqb, leb}
use borrow.Author.Tests.{eqb-true, leb-true}
use Rattle.stage.specs.Taps.{odd_up_to}
use Rattle.stage.proofs.Both.{both}

pub record TapCount (limit n : ℕ) : Type 0 where
  pub odd : n % 2 ≡ 1
  pub least : 3 ≤ n
  pub most : n ≤ limit

pub tap_count : (most n : ℕ) → odd_up_to most n ≡ true → TapCount most n
tap_count most n e =
    let o = eqb (n % 2) 1 in
    let two = both (o && leb 3 n) (leb n most) e in
    let one = both o (leb 3 n) two.0 in
    record { odd = eqb-true (n % 2) 1 one.0; least = leb-true 3 n one.1; most = leb-true n most two.1 }
