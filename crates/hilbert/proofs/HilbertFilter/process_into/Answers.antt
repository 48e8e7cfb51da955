-- `HilbertFilter::process_into` meets its contract: what an accepted call writes is what the filter gives. Assumes nothing.
use mathlib.Core.Path.{◌≡◌, sym}
use lib.ListN.{length}
use Rattle.stage.proofs.Refusals.{run_gives}
use Rattle.hilbert.specs.Process.{process_refusal}
use Rattle.hilbert.proofs.Accepting.{into_accepted}
use Rattle.hilbert.proofs.HilbertFilter.process_into.Goals as goal

pub returns : goal.returns
returns c =
    let a = c.args in
    let count = c.filter_odd_into-count in
    let zero : process_refusal (length a.taps.now) (length a.history.now) (length a.input.now) (length a.output.now) ≡ 0 =
    sym (rw (c.history_fits.ensures, c.within.ensures, c.taps_allowed.ensures) at c.in_default.ensures) in
    let w = into_accepted a.taps.now a.history.now a.input.now a.output.now count.new.output count.result zero count.ensures in
    rw (c.keep.ensures, w.0, w.1) (run_gives _ _ _ zero)
