-- A filter with an output for each sample: it goes from phase 0 to phase 0, so that its laws need not speak of the phase. Assumes nothing.
use Prim.Native.Nat.{ℕ, ◌+◌, ◌-◌, ◌*◌, ◌≤◌}
use native.Mathlib.Nat.{zero-add, mul-one}
use native.Mathlib.Omega.{arith}
use mathlib.Core.Path.{◌≡◌, ap, ◌∙◌}
use mathlib.Core.List.{List, ◌++◌}
use lib.ListN.{length, get_or}
use Rattle.stage.proofs.InTurn.{Cuttable}
use Rattle.stage.proofs.Filling.{length_counted}
use Rattle.fir.specs.Filter.{Filter, Memory, kept, outputs, filter_outs, filter_end}
use Rattle.fir.specs.Each.{each_outs}
use Rattle.fir.specs.Damage.{DifferWithin, Unseen}
use Rattle.fir.proofs.Counting.{count_of_each, phase_of_each}
use Rattle.fir.proofs.Cut.{outs_of_none, end_of_none, outs_cut, end_cut}
use Rattle.fir.proofs.Damage.{damage_passes, damage_forgotten}

module _ {X Y : Type 0} (f : Filter X Y) (each : f.factor ≡ 1) where
  abbrev from : List X → Memory X
  from h = record { phase = 0; history = h }

  pub each_length : (h x : List X) → length (each_outs f h x) ≡ length x
  unfolding outputs
  each_length h x = simp (length_counted, each) (count_of_each (length x))

  -- so a run ends where it can go on in the same way
  ends : (h x : List X) → filter_end f (from h) x ≡ from (kept h x)
  ends h x = rw (each, phase_of_each (length x))

  -- cut anywhere, also into no samples at all
  pub each_cuts : Cuttable (λ h. f.taps ≡ length h + 1) (each_outs f) kept
  each_cuts =
      record {
        none_out = λ h. outs_of_none f (from h);
        none_end = λ h. ap (λ (s : Memory X). s.history) (end_of_none f (from h));
        cut_out = λ h a b fit.
            outs_cut f (omega (arith, each)) (from h) a b fit ∙ ap (λ (s : Memory X). each_outs f h a ++ filter_outs f s b) (ends h a);
        cut_end = λ h a b fit. ap (λ (s : Memory X). s.history) (end_cut f (omega (arith, each)) (from h) a b fit);
      }

  module _ (a b : ℕ) (h x y : List X) (fit : f.taps ≡ length h + 1) (d : DifferWithin a b x y) where
    -- damage passes
    pub each_passes : (j : ℕ) (none : Y) → Unseen f.taps a b j → get_or (each_outs f h x) j none ≡ get_or (each_outs f h y) j none
    each_passes j none w =
        let p : 0 + j * f.factor ≡ j = rw (each, zero-add, mul-one) in
        damage_passes f a b h x y fit d 0 j none (rw p w)

    pub each_forgotten : b + (f.taps - 1) ≤ length x → kept h x ≡ kept h y
    each_forgotten far = ap (λ (s : Memory X). s.history) (damage_forgotten f a b h x y fit d 0 far)
