-- `hilbert::taps::Place::window` meets its contract. Assumes nothing.
use Rattle.hilbert.specs.Taps.{blackman_harris}
use Rattle.hilbert.proofs.taps.Place.window.Goals as goal

pub returns : goal.returns
unfolding blackman_harris
returns c = cc
