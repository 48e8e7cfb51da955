-- `lowpass::taps::sinc_at` meets its contract, by the test on n. Assumes nothing.
use Rattle.lowpass.specs.Lowpass.{sinc}
use Rattle.lowpass.proofs.taps.sinc_at.Goals as goal

pub returns-then-n : goal.returns-then-n
unfolding sinc
returns-then-n c = simp c.if-n.true

pub returns : goal.returns
unfolding sinc
returns c = simp (c.if-n.false, c.sine_f32.ensures)
