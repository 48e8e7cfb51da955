-- The Rust's `process_split` adds the new sample's part first and its other calls the old mean's: both sums are the one mean of the definition. Assumes nothing.
use mathlib.Core.Path.{◌≡◌}
use lib.Ieee.{Float, binary32, add, sub, mul}
use Rattle.stage.specs.Floats.{one}
use Rattle.stage.proofs.Commute.{commute}
use Rattle.dc_remover.specs.Step.{mean_after}

pub either_order : (alpha avg x : Float) → add binary32 (mul binary32 alpha x) (mul binary32 (sub binary32 one alpha) avg) ≡ mean_after alpha avg x
either_order alpha avg x = commute binary32 (mul binary32 alpha x) (mul binary32 (sub binary32 one alpha) avg)
