-- Demand 1 of the feedback stages and the oscillator, call by call: each number is given exactly when document 01's table says, in its order, and a refused call
-- gives back the state handed in (a making call a record of zeros), counts of 0, and every lent place as it was. Each signature spells the demands out. Assumes nothing.
use Prim.Native.Nat.{◌/◌}
use mathlib.Core.Path.{◌≡◌, refl}
use mathlib.Core.Bool.{true, ◌&&◌}
use mathlib.Core.List.{List}
use lib.Dec.{leb, ltb}
use lib.ListN.{length}
use lib.Ieee.{Float}
use lib.Ieee.Scale.{finite}
use Rattle.angle.specs.Turn.{pulled}
use Rattle.stage.specs.Refusal.{unless}
use Rattle.stage.specs.Length.{is_within, is_even}
use Rattle.stage.specs.Floats.{both_finite}
use Rattle.stage.specs.Settings.{in_unit, is_positive, not_negative}
use Rattle.dc_remover.specs.declared.DcRemover.{DcRemover}
use Rattle.dc_remover.specs.State as dc-remover-state
use Rattle.dc_remover.specs.Process as dc-remover
use Rattle.agc.specs.declared.Agc.{Agc}
use Rattle.agc.specs.State as agc-state
use Rattle.agc.specs.Process as agc
use Rattle.audio_agc.specs.declared.AudioAgc.{AudioAgc}
use Rattle.audio_agc.specs.Made as audio-agc-made
use Rattle.audio_agc.specs.Process as audio-agc
use Rattle.fm.specs.declared.FmDemodulator.{FmDemodulator}
use Rattle.fm.specs.State as fm-state
use Rattle.fm.specs.Process as fm
use Rattle.am.specs.declared.AmDemodulator.{AmDemodulator}
use Rattle.am.specs.State as am-state
use Rattle.am.specs.Process as am
use Rattle.nco.specs.declared.Nco.{Nco}
use Rattle.nco.specs.Mix as nco-work
use Rattle.nco.specs.Rules as nco-rules
use Rattle.nco.specs.Call as nco
use Rattle.promises.specs.Table.{demands, Refuses}
use Rattle.promises.proofs.Table.{refuses_at, refuses, refuses_setting}

-- ---- the level stages

pub dc_remover_new : (alpha : Float)
    → Refuses (demands (in_unit alpha) true true true true) (λ r. r.refusal) (dc-remover-state.made alpha)
    (λ n. record { refusal = n; state = dc-remover-state.zeros; struck = 0 })
dc_remover_new alpha = refuses_setting _ refl (λ n. refl)

pub dc_remover_process : (s : DcRemover) (xs : List Float)
    → Refuses (demands (in_unit s.alpha) (both_finite s.avg_i s.avg_q) (is_within (length xs)) (is_even (length xs)) true)
    (λ g. g.refusal) (dc-remover.process s xs) (λ n. record { refusal = n; state = s; struck = 0; left = xs })
dc_remover_process s xs = refuses _ refl (λ n. refl)

pub dc_remover_process_mono : (s : DcRemover) (xs : List Float)
    → Refuses (demands (in_unit s.alpha) (both_finite s.avg_i s.avg_q) (is_within (length xs)) true true)
    (λ g. g.refusal) (dc-remover.process_mono s xs) (λ n. record { refusal = n; state = s; struck = 0; left = xs })
dc_remover_process_mono s xs = refuses _ refl (λ n. refl)

pub dc_remover_process_split : (s : DcRemover) (i q : List Float)
    → Refuses (demands (in_unit s.alpha) (both_finite s.avg_i s.avg_q) (is_within (length i) && is_within (length q)) true true)
    (λ g. g.refusal) (dc-remover.process_split s (i, q)) (λ n. record { refusal = n; state = s; struck = 0; left = (i, q) })
dc_remover_process_split s i q = refuses _ refl (λ n. refl)

pub agc_new : (target attack decay : Float)
    → Refuses (demands (is_positive target && in_unit attack && in_unit decay) true true true true) (λ r. r.refusal) (agc-state.made target attack decay)
    (λ n. record { refusal = n; state = agc-state.zeros; struck = 0 })
agc_new target attack decay = refuses_setting _ refl (λ n. refl)

pub agc_process : (s : Agc) (xs : List Float)
    → Refuses
    (demands (is_positive s.target && in_unit s.attack && in_unit s.decay) (finite s.gain) (is_within (length xs)) (is_even (length xs)) true)
    (λ g. g.refusal) (agc.process s xs) (λ n. record { refusal = n; state = s; struck = 0; left = xs })
agc_process s xs = refuses _ refl (λ n. refl)

pub audio_agc_new : (target attack decay time rate floor : Float)
    → Refuses
    (demands (is_positive target && is_positive floor && (in_unit attack && in_unit decay) && audio-agc-made.hang_met time rate) true true true true)
    (λ r. r.refusal) (audio-agc-made.made target attack decay time rate floor) (λ n. record { refusal = n; state = audio-agc-made.zeros; struck = 0 })
audio_agc_new target attack decay time rate floor = refuses_setting _ refl (λ n. refl)

pub audio_agc_process : (s : AudioAgc) (xs : List Float)
    → Refuses
    (demands (is_positive s.target && is_positive s.min_magnitude && (in_unit s.attack && in_unit s.decay) && ltb s.hang_time_samples 16_777_216)
    (both_finite s.gain s.envelope && leb s.hang_counter s.hang_time_samples) (is_within (length xs)) true true)
    (λ g. g.refusal) (audio-agc.process s xs) (λ n. record { refusal = n; state = s; struck = 0; left = xs })
audio_agc_process s xs = refuses _ refl (λ n. refl)

-- ---- the demodulators: `new` has nothing to refuse

pub fm_new : (fm-state.fresh).refusal ≡ 0
fm_new = refl

pub fm_with_deemphasis : (s : FmDemodulator) (rate tau : Float)
    → Refuses
    (demands (in_unit s.deemph_alpha && (is_positive rate && not_negative tau) && in_unit (fm-state.alpha_of rate tau)) (both_finite s.last_phase s.deemph_state) true true true)
    (λ r. r.refusal) (fm-state.deemphasised s rate tau) (λ n. record { refusal = n; state = s; count = 0; struck = 0 })
unfolding fm-state.deemphasised fm-state.deemphasis_no
fm_with_deemphasis s rate tau = refuses_at (λ n. fm-state.answered n (unless n (fm-state.with_alpha s (fm-state.alpha_of rate tau)) s) 0 0) (λ n. refl) (λ n. refl)

pub fm_process_into : (s : FmDemodulator) (input output : List Float)
    → Refuses
    (demands (in_unit s.deemph_alpha) (both_finite s.last_phase s.deemph_state) (is_within (length input)) (is_even (length input)) (leb (length input / 2) (length output)))
    (λ g. g.refusal) (fm.process_into s input output) (λ n. record { refusal = n; state = s; count = 0; struck = 0; left = output })
fm_process_into s input output = refuses _ refl (λ n. refl)

pub am_new : (am-state.fresh).refusal ≡ 0
am_new = refl

pub am_process_into : (s : AmDemodulator) (input output : List Float)
    → Refuses
    (demands (in_unit s.dc_alpha && in_unit s.hp_alpha) (both_finite s.dc_mean s.hp_state) (is_within (length input)) (is_even (length input))
    (leb (length input / 2) (length output)))
    (λ g. g.refusal) (am.process_into s input output) (λ n. record { refusal = n; state = s; count = 0; struck = 0; left = output })
am_process_into s input output = refuses _ refl (λ n. refl)

-- ---- the oscillator: no counts

pub nco_new : (freq rate : Float)
    → Refuses (demands (finite freq && is_positive rate && nco-rules.increment_allowed (nco-work.increment_of freq rate)) true true true true) (λ r. r.refusal) (nco.made freq rate)
    (λ n. record { refusal = n; state = nco.zeros })
unfolding nco.made nco-rules.tuning_refusal
nco_new freq rate = refuses_at (λ n. nco.given n (nco-work.tuned_at nco.nought (nco-work.increment_of freq rate)) nco.zeros) (λ n. refl) (λ n. refl)

pub nco_set_freq : (s : Nco) (freq rate : Float)
    → Refuses
    (demands (nco-rules.increment_allowed s.phase_inc && (finite freq && is_positive rate && nco-rules.increment_allowed (nco-work.increment_of freq rate)))
    (finite s.phase && finite s.rotator_i && finite s.rotator_q) true true true)
    (λ r. r.refusal) (nco.retuned s freq rate) (λ n. record { refusal = n; state = s })
unfolding nco.retuned nco-rules.retuning_refusal
nco_set_freq s freq rate = refuses_at (λ n. nco.given n (nco-work.tuned_at s.phase (nco-work.increment_of freq rate)) s) (λ n. refl) (λ n. refl)

pub nco_mix : (s : Nco) (iq : List Float)
    → Refuses
    (demands (nco-rules.increment_allowed s.phase_inc) (finite s.phase && finite s.rotator_i && finite s.rotator_q) (is_within (length iq)) (is_even (length iq)) true)
    (λ g. g.0.refusal) (nco.mixed s iq) (λ n. (record { refusal = n; state = s }, iq))
unfolding nco.mixed nco-rules.mixing_refusal
nco_mix s iq = refuses_at (λ n. (nco.given n (nco.at s (pulled (nco-work.phase_after s iq))) s, unless n (nco-work.mixed_outs s iq) iq)) (λ n. refl) (λ n. refl)

pub nco_reset : (s : Nco)
    → Refuses (demands (nco-rules.increment_allowed s.phase_inc) (finite s.phase && finite s.rotator_i && finite s.rotator_q) true true true)
    (λ r. r.refusal) (nco.cleared s) (λ n. record { refusal = n; state = s })
unfolding nco.cleared nco-rules.resting_refusal
nco_reset s = refuses_at (λ n. nco.given n (nco.at s nco.nought) s) (λ n. refl) (λ n. refl)
