-- A kept step of the audio gain control hands on a sound state: the settings are not touched, only what is finite is stored, and the hang counter stays
-- within its time. A fresh state is sound. Assumes nothing.
use Prim.Native.Nat.{ℕ, ◌≤◌}
use native.Mathlib.Omega.{arith}
use mathlib.Core.Path.{◌≡◌, refl, sym, ◌∙◌}
use mathlib.Core.Bool.{true, ◌&&◌, and-eq-true_iff}
use lib.Dec.{leb, ltb}
use lib.Ieee.{Float, binary32, of_bits, lt, to_unsigned}
use lib.Ieee.Scale.{finite}
use borrow.Author.Tests.{leb-true, le-leb, lt-ltb}
use Rattle.stage.specs.Floats.{both_finite}
use Rattle.stage.specs.Settings.{is_positive, not_negative}
use Rattle.stage.specs.Refusal.{NONE, SETTING}
use Rattle.stage.specs.Run.{kept}
use Rattle.stage.specs.Stage.{Sound}
use Rattle.stage.proofs.Stays.{Keeps, kept_where, made_by_test}
use Rattle.audio_agc.specs.declared.AudioAgc.{AudioAgc}
use Rattle.audio_agc.specs.declared.AudioAgcDone.{AudioAgcDone}
use Rattle.audio_agc.specs.State.{levels_met, LONGEST_HANG, answered}
use Rattle.audio_agc.specs.Made.{hang_of, hang_met, fresh, zeros, made}
use Rattle.audio_agc.specs.Step.{moved, keep_step}
use Rattle.audio_agc.specs.Process.{audio_stage}
use Rattle.audio_agc.proofs.Ways.{step_way}
use Rattle.audio_agc.proofs.Hang.{hang_cut}

-- what a sound state stores
module _ (s : AudioAgc) (h : Sound audio_stage s) where
  parts : (both_finite s.gain s.envelope ≡ true) × (leb s.hang_counter s.hang_time_samples ≡ true)
  parts = (and-eq-true_iff (both_finite s.gain s.envelope) (leb s.hang_counter s.hang_time_samples)).0 h.state

  pub envelope_finite : finite s.envelope ≡ true
  envelope_finite = ((and-eq-true_iff (finite s.gain) (finite s.envelope)).0 parts.0).1

  pub hang_within : s.hang_counter ≤ s.hang_time_samples
  hang_within = leb-true _ _ parts.1

-- what the test lets through is sound
keep_sound : (s : AudioAgc) (out gain envelope : Float) (hang : ℕ) (o : Float) (t : AudioAgc) → Sound audio_stage s → hang ≤ s.hang_time_samples
    → keep_step out (moved s gain envelope hang) ≡ kept o t → Sound audio_stage t
unfolding keep_step
keep_sound s out gain envelope hang o t h w e =
    kept_where (Sound audio_stage) (both_finite out gain && finite envelope) out (moved s gain envelope hang)
    (λ f.
    let parts = (and-eq-true_iff (both_finite out gain) (finite envelope)).0 f in
    let level = ((and-eq-true_iff (finite out) (finite gain)).0 parts.0).1 in
    record {
      setting = h.setting;
      state = (and-eq-true_iff (both_finite gain envelope) (leb hang s.hang_time_samples)).1 ((and-eq-true_iff (finite gain) (finite envelope)).1 (level, parts.1), le-leb _ _ w);
    })
    o t e

pub audio_keeps : Keeps audio_stage
audio_keeps s x o t h e =
    let w = step_way s x (hang_within s h) in
    keep_sound s w.out w.gain _ w.hang o t h w.within (sym w.is ∙ e)

fresh_sound : (target attack decay time rate floor : Float) → (levels_met target attack decay floor && hang_met time rate) ≡ true
    → Sound audio_stage (fresh target attack decay (hang_of time rate) floor)
unfolding of_bits
fresh_sound target attack decay time rate floor e =
    let parts = (and-eq-true_iff (levels_met target attack decay floor) (hang_met time rate)).0 e in
    let below = ((and-eq-true_iff (not_negative time && is_positive rate) (lt (hang_of time rate) (of_bits binary32 0x4b80_0000))).0 parts.1).1 in
    let cut = lt-ltb _ _ (hang_cut (hang_of time rate) below) in
    record { setting = (and-eq-true_iff (levels_met target attack decay floor) (ltb (to_unsigned 64 (hang_of time rate)) LONGEST_HANG)).1 (parts.0, cut); state = le-leb 0 (to_unsigned 64 (hang_of time rate)) (omega arith) }

-- a making call that is not refused gives a sound state
pub made_sound : (target attack decay time rate floor : Float) → (made target attack decay time rate floor).refusal ≡ NONE
    → Sound audio_stage (made target attack decay time rate floor).state
made_sound target attack decay time rate floor e =
    let new = fresh target attack decay (hang_of time rate) floor in
    made_by_test (λ (r : AudioAgcDone). r.refusal) (λ (r : AudioAgcDone). r.state) (Sound audio_stage) (levels_met target attack decay floor && hang_met time rate)
    (answered NONE new 0) (answered SETTING zeros 0) refl (fresh_sound target attack decay time rate floor) e
