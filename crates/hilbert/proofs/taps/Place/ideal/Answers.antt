-- `hilbert::taps::Place::ideal` meets its contract. Assumes nothing.
use mathlib.Core.Path.{refl}
use Rattle.stage.specs.Floats.{whole}
use Rattle.hilbert.specs.Taps.{kernel}
use Rattle.hilbert.proofs.taps.Place.ideal.Goals as goal

pub returns : goal.returns
unfolding kernel whole
returns c = refl
