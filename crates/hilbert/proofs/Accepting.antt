-- What number 0 says of a Hilbert filter that is handed in, and what the filter then writes. Assumes nothing.
use Prim.Native.Nat.{ℕ, ◌+◌, ◌≤◌}
use mathlib.Core.Path.{◌≡◌, sym, ap, ◌∙◌}
use mathlib.Core.Bool.{true}
use mathlib.Core.List.{List}
use lib.Dec.{leb}
use lib.ListN.{length}
use lib.Ieee.{Float}
use borrow.Author.Tests.{eqb-true, le-leb}
use Rattle.stage.specs.Length.{is_within}
use Rattle.stage.specs.Layout.{over}
use Rattle.stage.proofs.Refusals.{met}
use Rattle.stage.proofs.TapCounts.{tap_count}
use Rattle.fir.specs.Filter.{history_fits}
use Rattle.fir.specs.Each.{each_outs}
use Rattle.fir.specs.Dot.{odd_taps}
use Rattle.fir.specs.Into.{fits_odd, filtered_odd_into}
use Rattle.fir.proofs.Counting.{count_of_each}
use Rattle.hilbert.specs.Rules.{taps_allowed}
use Rattle.hilbert.specs.Making.{new_refusal}
use Rattle.hilbert.specs.Process.{process_refusal}

-- taps that obey the rule, with a history that fits
pub record Sound (taps history : ℕ) : Type 0 where
  pub least : 3 ≤ taps
  pub most : taps ≤ 129
  pub long : taps ≡ history + 1

sound : (taps history : ℕ) → taps_allowed taps ≡ true → history_fits taps history ≡ true → Sound taps history
sound taps history t l =
    let count = tap_count 129 taps t in
    record { least = count.least; most = count.most; long = sym (eqb-true (history + 1) taps l) }

pub new_sound : (taps history : ℕ) → new_refusal taps history ≡ 0 → Sound taps history
new_sound taps history e =
    let m = met (taps_allowed taps) true true (history_fits taps history) true e in
    sound taps history m.setting m.length

module _ (taps history n room : ℕ) (e : process_refusal taps history n room ≡ 0) where
  pub process_sound : Sound taps history
  process_sound =
      let m = met (taps_allowed taps) true (is_within n) (history_fits taps history) (leb n room) e in
      sound taps history m.setting m.length

  -- so the filter has what it works on
  process_fits : fits_odd taps history n room ≡ true
  process_fits =
      let m = met (taps_allowed taps) true (is_within n) (history_fits taps history) (leb n room) e in
      rw (m.length, le-leb taps 129 process_sound.most, m.limit, m.room)

-- and leaves an output for each sample over what the slice held
pub into_accepted : (taps history input output out : List Float) (r : ℕ)
    → process_refusal (length taps) (length history) (length input) (length output) ≡ 0
    → (r, out) ≡ filtered_odd_into taps history input output
    → (r ≡ length input) × (out ≡ over (each_outs (odd_taps taps) history input) output)
into_accepted taps history input output out r e is =
    let gives = rw (process_fits (length taps) (length history) (length input) (length output) e) at is in (
      ap {B = ℕ} (λ p. p.0) gives ∙ count_of_each (length input),
      ap {B = List Float} (λ p. p.1) gives,
    )
