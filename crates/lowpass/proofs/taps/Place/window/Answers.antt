-- `lowpass::taps::Place::window` meets its contract. Assumes nothing.
use Rattle.lowpass.specs.Lowpass.{hamming}
use Rattle.stage.specs.Floats.{whole}
use Rattle.lowpass.proofs.taps.Place.window.Goals as goal

pub returns : goal.returns
unfolding hamming whole
returns c = simp c.cosine_f32.ensures
