-- `hilbert::taps::Place::wave` meets its contract. Assumes nothing.
use Rattle.stage.specs.Floats.{whole}
use Rattle.hilbert.specs.Taps.{ripple}
use Rattle.hilbert.proofs.taps.Place.wave.Goals as goal

pub returns : goal.returns
unfolding ripple whole
returns c = simp c.cosine_f32.ensures
