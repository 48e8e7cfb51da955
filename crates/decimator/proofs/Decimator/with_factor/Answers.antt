-- `Decimator::with_factor` meets its contract: the cutoff is always allowed. Assumes nothing.
use mathlib.Core.Path.{◌≡◌, sym}
use lib.ListN.{length}
use Rattle.decimator.specs.Making.{with_factor_refusal}
use Rattle.decimator.proofs.Accepting.{with_factor_allowed}
use Rattle.decimator.proofs.Designing.{cutoff_for_allowed}
use Rattle.decimator.proofs.Decimator.with_factor.Goals as goal

pub begin-requires : goal.begin-requires
begin-requires c =
    let a = c.args in
    let none : 0 ≡ with_factor_refusal a.factor (length a.taps.now) (length a.history.now) = rw (c.twelvefold.ensures, c.history_fits.ensures, c.taps_allowed.ensures, c.factor_allowed.ensures) at c.in_default.ensures in
    let ok = with_factor_allowed a.factor (length a.taps.now) (length a.history.now) (sym none) in
    (ok.allowed, rw c.cutoff_for.ensures (cutoff_for_allowed _ ok.factor_low ok.factor_high))
