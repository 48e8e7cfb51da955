-- `lowpass::taps::Place::tap` meets its contract. Assumes nothing.
use Rattle.lowpass.specs.Lowpass.{unscaled}
use Rattle.stage.specs.Floats.{whole}
use Rattle.lowpass.proofs.taps.Place.tap.Goals as goal

pub returns : goal.returns
unfolding unscaled whole
returns c = simp (c.window.ensures, c.sinc_at.ensures)
