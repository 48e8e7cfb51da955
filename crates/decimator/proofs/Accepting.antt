-- What number 0 says of a decimator that is handed in, and of one that is made for a factor. Assumes nothing.
use Prim.Native.Nat.{ℕ, ◌+◌, ◌*◌, ◌≤◌, ◌<◌}
use mathlib.Core.Path.{◌≡◌, sym}
use mathlib.Core.Bool.{true, ◌&&◌}
use lib.Dec.{eqb, leb, ltb}
use borrow.Author.Tests.{eqb-true, leb-true, ltb-true}
use Rattle.stage.specs.Length.{is_within}
use Rattle.stage.proofs.Both.{both}
use Rattle.stage.proofs.Refusals.{met}
use Rattle.lowpass.specs.Rules.{taps_allowed}
use Rattle.fir.specs.Filter.{history_fits, count_of}
use Rattle.decimator.specs.Rules.{factor_allowed, state_allowed}
use Rattle.decimator.specs.Making.{with_factor_refusal}
use Rattle.decimator.specs.Process.{process_refusal}
use Rattle.decimator.specs.declared.Decimator.{Decimator}

-- a decimator that obeys the rules, with a history that fits
pub record Sound (d : Decimator) (taps history : ℕ) : Type 0 where
  pub factor_low : 2 ≤ d.factor
  pub factor_high : d.factor ≤ 64
  pub phase_low : d.phase < d.factor
  pub allowed : taps_allowed taps ≡ true
  pub long : taps ≡ history + 1

pub sound : (d : Decimator) (taps history : ℕ) → state_allowed d taps ≡ true → history_fits taps history ≡ true → Sound d taps history
sound d taps history s l =
    let a = factor_allowed d.factor in
    let b = ltb d.phase d.factor in
    let two = both (a && b) (taps_allowed taps) s in
    let one = both a b two.0 in
    let factor = both (leb 2 d.factor) (leb d.factor 64) one.0 in
    record {
      factor_low = leb-true 2 d.factor factor.0;
      factor_high = leb-true d.factor 64 factor.1;
      phase_low = ltb-true d.phase d.factor one.1;
      allowed = two.1;
      long = sym (eqb-true (history + 1) taps l);
    }

module _ (d : Decimator) (taps history n room : ℕ) (e : process_refusal d taps history n room ≡ 0) where
  pub process_sound : Sound d taps history
  process_sound =
      let m = met (state_allowed d taps) true (is_within n) (history_fits taps history) (leb (count_of d.factor d.phase n) room) e in
      sound d taps history m.setting m.length

-- ---- the call that designs its taps for a factor

pub record WithFactor (factor taps : ℕ) : Type 0 where
  pub factor_low : 2 ≤ factor
  pub factor_high : factor ≤ 64
  pub allowed : taps_allowed taps ≡ true

pub with_factor_allowed : (factor taps history : ℕ) → with_factor_refusal factor taps history ≡ 0 → WithFactor factor taps
with_factor_allowed factor taps history e =
    let m = met (factor_allowed factor && taps_allowed taps) true true (history_fits taps history && eqb taps (12 * factor + 1)) true e in
    let two = both (factor_allowed factor) (taps_allowed taps) m.setting in
    let one = both (leb 2 factor) (leb factor 64) two.0 in
    record { factor_low = leb-true 2 factor one.0; factor_high = leb-true factor 64 one.1; allowed = two.1 }
