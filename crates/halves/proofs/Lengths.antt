-- What the calls give on lengths that fit. Assumes nothing.
use Prim.Native.Nat.{ℕ, ◌+◌, ◌/◌, ◌%◌}
use native.Mathlib.Omega.{arith}
use mathlib.Core.Path.{◌≡◌, ap}
use mathlib.Core.Bool.{true}
use mathlib.Core.List.{List}
use lib.ListN.{length}
use lib.Ieee.{Float}
use borrow.Author.Tests.{eq-eqb}
use Rattle.stage.specs.Layout.{pairs, flat, zip, firsts, seconds}
use Rattle.halves.specs.Halves.{fit, apart, together}

fit_is_true : (n i q : ℕ) → n ≡ i + i → q ≡ i → fit n i q ≡ true
fit_is_true n i q e f =
    let even : n % 2 ≡ 0 = omega arith in
    let first : n / 2 ≡ i = omega arith in
    let second : n / 2 ≡ q = omega arith in
    rw (eq-eqb (n % 2) 0 even, eq-eqb (n / 2) i first, eq-eqb (n / 2) q second)

-- what `split` leaves, for a caller who lends lengths that fit
pub apart_gives : (input i q i' q' : List Float) → length input ≡ length i + length i → length q ≡ length i → (i', q') ≡ apart input i q
    → (i' ≡ firsts (pairs input)) × (q' ≡ seconds (pairs input))
apart_gives input i q i' q' n e is =
    let gives = rw (fit_is_true (length input) (length i) (length q) n e) at is in
    (ap {B = List Float} (λ p. p.0) gives, ap {B = List Float} (λ p. p.1) gives)

-- and what `join` leaves
pub together_gives : (i q output output' : List Float) → length output ≡ length i + length i → length q ≡ length i → output' ≡ together i q output
    → output' ≡ flat (zip i q)
together_gives i q output output' n e is = rw (fit_is_true (length output) (length i) (length q) n e) at is
