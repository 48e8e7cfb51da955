-- "Empty input is refused only by this table. Accepted, it gives no output and keeps the state, save that the NCO still takes off its turn." Assumes nothing.
use Prim.Native.Nat.{ℕ}
use native.Mathlib.Omega.{arith}
use mathlib.Core.Path.{◌≡◌, refl, sym, ap, ◌∙◌}
use mathlib.Core.List.{List, []}
use lib.ListN.{length}
use lib.Ieee.{Float}
use Rattle.angle.specs.Turn.{pulled}
use Rattle.stage.specs.Refusal.{NONE, unless}
use Rattle.stage.specs.Lent.{mono, interleaved, split}
use Rattle.stage.proofs.Refusals.{run_gives, answers_none}
use Rattle.stage.proofs.Calls.{call_ran}
use Rattle.stage.proofs.Intos.{into_ran}
use Rattle.fir.specs.Filter.{Memory}
use Rattle.fir.specs.Dot.{every_tap, odd_taps}
use Rattle.fir.proofs.Counting.{count_none}
use Rattle.fir.proofs.Cut.{outs_of_none, end_of_none}
use Rattle.fir.proofs.Each.{each_cuts}
use Rattle.decimator.specs.declared.Decimator.{Decimator}
use Rattle.decimator.specs.Process as decimator
use Rattle.hilbert.specs.Process as hilbert
use Rattle.ssb.specs.declared.SsbDemodulator.{SsbDemodulator}
use Rattle.ssb.specs.Sideband.{Histories, histories}
use Rattle.ssb.specs.Process as ssb
use Rattle.ssb.proofs.Cutting.{ssb_cuts}
use Rattle.dc_remover.specs.declared.DcRemover.{DcRemover}
use Rattle.dc_remover.specs.Process as dc-remover
use Rattle.agc.specs.declared.Agc.{Agc}
use Rattle.agc.specs.Process as agc
use Rattle.audio_agc.specs.declared.AudioAgc.{AudioAgc}
use Rattle.audio_agc.specs.Process as audio-agc
use Rattle.fm.specs.declared.FmDemodulator.{FmDemodulator}
use Rattle.fm.specs.Process as fm
use Rattle.am.specs.declared.AmDemodulator.{AmDemodulator}
use Rattle.am.specs.Process as am
use Rattle.nco.specs.declared.Nco.{Nco}
use Rattle.nco.specs.Mix.{mixed_outs, phase_after}
use Rattle.nco.specs.Rules.{mixing_refusal}
use Rattle.nco.specs.Call as nco

-- a call that was not refused gave what its run gives
ran : {A : Type 0} (number_in : A → ℕ) (n : ℕ) (run refused : A) → number_in refused ≡ n → number_in (unless n run refused) ≡ NONE → unless n run refused ≡ run
ran number_in n run refused e ok = sym (run_gives n run refused (answers_none number_in n run refused e ok))

-- ---- the level stages; of two slices one is empty, and the other stays

pub dc_remover_process : (s : DcRemover) → (dc-remover.process s []).refusal ≡ NONE → dc-remover.process s [] ≡ record { refusal = NONE; state = s; struck = 0; left = [] }
dc_remover_process s e = call_ran dc-remover.pair_stage interleaved s [] e

pub dc_remover_process_mono : (s : DcRemover) → (dc-remover.process_mono s []).refusal ≡ NONE
    → dc-remover.process_mono s [] ≡ record { refusal = NONE; state = s; struck = 0; left = [] }
dc_remover_process_mono s e = call_ran dc-remover.mono_stage mono s [] e

pub dc_remover_process_split : (s : DcRemover) (q : List Float) → (dc-remover.process_split s ([], q)).refusal ≡ NONE
    → dc-remover.process_split s ([], q) ≡ record { refusal = NONE; state = s; struck = 0; left = ([], q) }
dc_remover_process_split s q e = call_ran dc-remover.pair_stage split s ([], q) e

pub agc_process : (s : Agc) → (agc.process s []).refusal ≡ NONE → agc.process s [] ≡ record { refusal = NONE; state = s; struck = 0; left = [] }
agc_process s e = call_ran agc.agc_stage interleaved s [] e

pub audio_agc_process : (s : AudioAgc) → (audio-agc.process s []).refusal ≡ NONE → audio-agc.process s [] ≡ record { refusal = NONE; state = s; struck = 0; left = [] }
audio_agc_process s e = call_ran audio-agc.audio_stage mono s [] e

-- ---- the demodulators

pub fm_process_into : (s : FmDemodulator) (output : List Float) → (fm.process_into s [] output).refusal ≡ NONE
    → fm.process_into s [] output ≡ record { refusal = NONE; state = s; count = 0; struck = 0; left = output }
fm_process_into s output e = into_ran fm.fm_stage s [] output e

pub am_process_into : (s : AmDemodulator) (output : List Float) → (am.process_into s [] output).refusal ≡ NONE
    → am.process_into s [] output ≡ record { refusal = NONE; state = s; count = 0; struck = 0; left = output }
am_process_into s output e = into_ran am.am_stage s [] output e

-- ---- the oscillator takes off its turn

pub nco_mix : (s : Nco) → (nco.mixed s []).0.refusal ≡ NONE → nco.mixed s [] ≡ (record { refusal = NONE; state = nco.at s (pulled s.phase) }, [])
unfolding nco.mixed mixed_outs phase_after
nco_mix s e = let z : mixing_refusal s 0 ≡ NONE = e in rw z

-- ---- the filters

pub decimator_process_into : (d : Decimator) (taps history output : List Float) → (decimator.processed d taps history [] output).0.refusal ≡ NONE
    → decimator.processed d taps history [] output ≡ (record { refusal = NONE; state = d; count = 0 }, history, output)
decimator_process_into d taps history output e =
    let f = every_tap d.factor taps in
    let s = decimator.memory d history in
    let number = decimator.process_refusal d (length taps) (length history) 0 (length output) in
    ran (λ g. g.0.refusal) number (decimator.accepted d taps history [] output) (record { refusal = number; state = d; count = 0 }, history, output) refl e
    ∙ rw (
      outs_of_none f s,
      ap (λ (m : Memory Float). m.phase) (end_of_none f s),
      ap (λ (m : Memory Float). m.history) (end_of_none f s),
      count_none d.factor d.phase 0 (omega arith),
    )

pub hilbert_process_into : (taps history output : List Float) → (hilbert.processed taps history [] output).0.refusal ≡ NONE
    → hilbert.processed taps history [] output ≡ (record { refusal = NONE; count = 0 }, history, output)
hilbert_process_into taps history output e =
    let f = odd_taps taps in
    let number = hilbert.process_refusal (length taps) (length history) 0 (length output) in
    ran (λ g. g.0.refusal) number (hilbert.accepted taps history [] output) (record { refusal = number; count = 0 }, history, output) refl e
    ∙ rw ((each_cuts f refl).none_out history, (each_cuts f refl).none_end history)

pub ssb_process_into : (d : SsbDemodulator) (taps q i output : List Float) → (ssb.processed d taps q i [] output).0.refusal ≡ NONE
    → ssb.processed d taps q i [] output ≡ (record { refusal = NONE; state = d; count = 0 }, q, i, output)
ssb_process_into d taps q i output e =
    let h = histories q i in
    let cuts = ssb_cuts d.is_usb taps in
    let number = ssb.process_refusal (length taps) (length q) (length i) 0 (length output) in
    ran (λ g. g.0.refusal) number (ssb.accepted d taps h [] output) (record { refusal = number; state = d; count = 0 }, q, i, output) refl e
    ∙ rw (cuts.none_out h, ap (λ (k : Histories). k.q) (cuts.none_end h), ap (λ (k : Histories). k.i) (cuts.none_end h))
