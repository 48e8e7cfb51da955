-- What a call gives by its number: the new state where nothing is refused, and else the state that was handed in. Assumes nothing.
use Prim.Native.Nat.{ℕ}
use mathlib.Core.Path.{◌≡◌, sym, ◌∙◌}
use mathlib.Core.Bool.{true}
use mathlib.Core.List.{List}
use lib.ListN.{length}
use lib.Ieee.{Float}
use Rattle.angle.specs.Turn.{pulled}
use Rattle.stage.specs.Length.{is_within, is_even}
use Rattle.stage.proofs.Refusals.{met, run_gives, refused_gives}
use Rattle.nco.specs.declared.Nco.{Nco}
use Rattle.nco.specs.Call.{given, at, mixed}
use Rattle.nco.specs.Mix.{mixed_outs, phase_after}
use Rattle.nco.specs.Rules.{increment_allowed, at_rest, mixing_refusal}

module _ (n number : ℕ) (run was : Nco) (e : n ≡ number) where
  pub runs : (left : Nco) → left ≡ run → n ≡ 0 → record { refusal = n; state = left } ≡ given number run was
  runs left h z = let g = run_gives number run was (sym e ∙ z) in cc

  pub refuses : (n ≡ 0 → ⊥) → record { refusal = n; state = was } ≡ given number run was
  refuses h = let g = refused_gives number run was (λ z. h (e ∙ z)) in cc

-- ---- mix
pub even_where_accepted : (s : Nco) (n : ℕ) → mixing_refusal s n ≡ 0 → is_even n ≡ true
unfolding mixing_refusal
even_where_accepted s n e = (met (increment_allowed s.phase_inc) (at_rest s) (is_within n) (is_even n) true e).length

module _ (s : Nco) (iq : List Float) (n : ℕ) (e : n ≡ mixing_refusal s (length iq)) where
  pub mix_runs : (phase : Float) (left : List Float) → phase ≡ pulled (phase_after s iq) → left ≡ mixed_outs s iq → n ≡ 0
      → (record { refusal = n; state = at s phase }, left) ≡ mixed s iq
  unfolding mixed
  mix_runs phase left p h z =
      let g = run_gives (mixing_refusal s (length iq)) (at s (pulled (phase_after s iq))) s (sym e ∙ z) in
      let k = run_gives (mixing_refusal s (length iq)) (mixed_outs s iq) iq (sym e ∙ z) in
      cc

  pub mix_refuses : (n ≡ 0 → ⊥) → (record { refusal = n; state = s }, iq) ≡ mixed s iq
  unfolding mixed
  mix_refuses h =
      let g = refused_gives (mixing_refusal s (length iq)) (at s (pulled (phase_after s iq))) s (λ z. h (e ∙ z)) in
      let k = refused_gives (mixing_refusal s (length iq)) (mixed_outs s iq) iq (λ z. h (e ∙ z)) in
      cc
