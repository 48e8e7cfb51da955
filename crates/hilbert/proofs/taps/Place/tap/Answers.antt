-- `hilbert::taps::Place::tap` meets its contract, by the parity of the distance. Assumes nothing.
use borrow.Author.Tests.{eq-eqb, ne_eqb}
use Rattle.hilbert.specs.Taps.{tap_at}
use Rattle.hilbert.proofs.taps.Place.tap.Goals as goal

pub returns-then-self-eq1 : goal.returns-then-self-eq1
unfolding tap_at
returns-then-self-eq1 c = simp (c.window.ensures, c.ideal.ensures, eq-eqb _ _ c.if-self-eq1.true)

pub returns : goal.returns
unfolding tap_at
returns c = simp (ne_eqb _ _ c.if-self-eq1.false)
