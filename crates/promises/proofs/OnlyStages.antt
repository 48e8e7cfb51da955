-- No second answer meets the contract of any public call of a stage: result and every lent place are determined, accepted or refused. Assumes nothing.
use mathlib.Core.List.{List}
use lib.Ieee.{Float}
use Rattle.converter.proofs as converter
use Rattle.converter.specs.contracts as converter-says
use Rattle.lowpass.proofs as lowpass
use Rattle.lowpass.specs.contracts as lowpass-says
use Rattle.decimator.proofs.Decimator as decimator
use Rattle.decimator.specs.contracts.Decimator as decimator-says
use Rattle.dc_remover.proofs.DcRemover as dc-remover
use Rattle.dc_remover.specs.contracts.DcRemover as dc-remover-says
use Rattle.agc.proofs.Agc as agc
use Rattle.agc.specs.contracts.Agc as agc-says
use Rattle.audio_agc.proofs.AudioAgc as audio-agc
use Rattle.audio_agc.specs.contracts.AudioAgc as audio-agc-says
use Rattle.fm.proofs.FmDemodulator as fm
use Rattle.fm.specs.contracts.FmDemodulator as fm-says
use Rattle.am.proofs.AmDemodulator as am
use Rattle.am.specs.contracts.AmDemodulator as am-says
use Rattle.nco.proofs.Nco as nco
use Rattle.nco.specs.contracts.Nco as nco-says
use Rattle.hilbert.proofs as hilbert-rules
use Rattle.hilbert.specs.contracts as hilbert-rules-says
use Rattle.hilbert.proofs.HilbertFilter as hilbert
use Rattle.hilbert.specs.contracts.HilbertFilter as hilbert-says
use Rattle.ssb.proofs.SsbDemodulator as ssb
use Rattle.ssb.specs.contracts.SsbDemodulator as ssb-says
use Rattle.stage.specs.Call.{Given}
use Rattle.stage.specs.Into.{Put}
use Rattle.dc_remover.specs.declared.DcRemover.{DcRemover}
use Rattle.agc.specs.declared.Agc.{Agc}
use Rattle.audio_agc.specs.declared.AudioAgc.{AudioAgc}
use Rattle.fm.specs.declared.FmDemodulator.{FmDemodulator}
use Rattle.am.specs.declared.AmDemodulator.{AmDemodulator}
use Rattle.promises.specs.Contract.{NoSecond}
use Rattle.promises.proofs.OneAnswer.{one_answer}

-- ---- the conversions and the lowpass design: the number and the slice

pub convert : NoSecond converter-says.convert.ended converter.convert.Reads.Learnt
convert h x y = one_answer (λ g. (g.0, (tt, (g.1, tt))))

pub convert_inverted : NoSecond converter-says.convert_inverted.ended converter.convert_inverted.Reads.Learnt
convert_inverted h x y = one_answer (λ g. (g.0, (tt, (g.1, tt))))

pub only_taps_allowed : NoSecond lowpass-says.taps_allowed.ended lowpass.taps_allowed.Reads.Learnt
only_taps_allowed h x y = one_answer (λ r. (r, (tt, tt)))

pub only_cutoff_allowed : NoSecond lowpass-says.cutoff_allowed.ended lowpass.cutoff_allowed.Reads.Learnt
only_cutoff_allowed h x y = one_answer (λ r. (r, (tt, tt)))

pub design_lowpass : NoSecond lowpass-says.design_lowpass.ended lowpass.design_lowpass.Reads.Learnt
design_lowpass h x y = one_answer (λ g. (g.0, (g.1, (tt, tt))))

-- ---- the decimator: the answer, and taps, history or output

pub decimator_new : NoSecond decimator-says.new.ended decimator.new.Reads.Learnt
decimator_new h x y = one_answer (λ g. (g.0, (tt, (tt, (g.1, (g.2, tt))))))

pub decimator_with_factor : NoSecond decimator-says.with_factor.ended decimator.with_factor.Reads.Learnt
decimator_with_factor h x y = one_answer (λ g. (g.0, (tt, (g.1, (g.2, tt)))))

pub decimator_process_into : NoSecond decimator-says.process_into.ended decimator.process_into.Reads.Learnt
decimator_process_into h x y = one_answer (λ g. (g.0, (tt, (tt, (g.1, (tt, (g.2, tt)))))))

pub decimator_reset : NoSecond decimator-says.reset.ended decimator.reset.Reads.Learnt
decimator_reset h x y = one_answer (λ g. (g.0, (tt, (tt, (g.1, tt)))))

pub decimator_update_cutoff : NoSecond decimator-says.update_cutoff.ended decimator.update_cutoff.Reads.Learnt
decimator_update_cutoff h x y = one_answer (λ g. (g.0, (tt, (tt, (g.1, (tt, tt))))))

-- ---- the Hilbert filter and SSB: the answer, and taps, histories or output

pub hilbert_taps_allowed : NoSecond hilbert-rules-says.taps_allowed.ended hilbert-rules.taps_allowed.Reads.Learnt
hilbert_taps_allowed h x y = one_answer (λ r. (r, (tt, tt)))

pub hilbert_new : NoSecond hilbert-says.new.ended hilbert.new.Reads.Learnt
hilbert_new h x y = one_answer (λ g. (g.0, (g.1, (g.2, tt))))

pub hilbert_process_into : NoSecond hilbert-says.process_into.ended hilbert.process_into.Reads.Learnt
hilbert_process_into h x y = one_answer (λ g. (g.0, (tt, (g.1, (tt, (g.2, tt))))))

pub ssb_new : NoSecond ssb-says.new.ended ssb.new.Reads.Learnt
ssb_new h x y = one_answer (λ g. (g.0, (tt, (g.1, (g.2, (g.3, tt))))))

pub ssb_process_into : NoSecond ssb-says.process_into.ended ssb.process_into.Reads.Learnt
ssb_process_into h x y = one_answer (λ g. (g.0, (tt, (tt, (g.1, (g.2, (tt, (g.3, tt))))))))

-- ---- the level stages: the answer, and the samples in place

pub dc_remover_new : NoSecond dc-remover-says.new.ended dc-remover.new.Reads.Learnt
dc_remover_new h x y = one_answer (λ r. (r, (tt, tt)))

pub dc_remover_process : NoSecond dc-remover-says.process.ended dc-remover.process.Reads.Learnt
dc_remover_process h x y =
    one_answer (λ (g : Given DcRemover (List Float)). (record { refusal = g.refusal; state = g.state; struck = g.struck }, (tt, (g.left, tt))))

pub dc_remover_process_mono : NoSecond dc-remover-says.process_mono.ended dc-remover.process_mono.Reads.Learnt
dc_remover_process_mono h x y =
    one_answer (λ (g : Given DcRemover (List Float)). (record { refusal = g.refusal; state = g.state; struck = g.struck }, (tt, (g.left, tt))))

pub dc_remover_process_split : NoSecond dc-remover-says.process_split.ended dc-remover.process_split.Reads.Learnt
dc_remover_process_split h x y =
    one_answer
    (λ (g : Given DcRemover (List Float × List Float)). (record { refusal = g.refusal; state = g.state; struck = g.struck }, (tt, (g.left.0, (g.left.1, tt)))))

pub agc_new : NoSecond agc-says.new.ended agc.new.Reads.Learnt
agc_new h x y = one_answer (λ r. (r, (tt, (tt, (tt, tt)))))

pub agc_process : NoSecond agc-says.process.ended agc.process.Reads.Learnt
agc_process h x y =
    one_answer (λ (g : Given Agc (List Float)). (record { refusal = g.refusal; state = g.state; struck = g.struck }, (tt, (g.left, tt))))

pub audio_agc_new : NoSecond audio-agc-says.new.ended audio-agc.new.Reads.Learnt
audio_agc_new h x y = one_answer (λ r. (r, (tt, (tt, (tt, (tt, (tt, (tt, tt))))))))

pub audio_agc_process : NoSecond audio-agc-says.process.ended audio-agc.process.Reads.Learnt
audio_agc_process h x y =
    one_answer (λ (g : Given AudioAgc (List Float)). (record { refusal = g.refusal; state = g.state; struck = g.struck }, (tt, (g.left, tt))))

-- ---- the demodulators: the answer, and the output

pub fm_new : NoSecond fm-says.new.ended fm.new.Reads.Learnt
fm_new h x y = one_answer (λ r. (r, tt))

pub fm_with_deemphasis : NoSecond fm-says.with_deemphasis.ended fm.with_deemphasis.Reads.Learnt
fm_with_deemphasis h x y = one_answer (λ r. (r, (tt, (tt, (tt, tt)))))

pub fm_process_into : NoSecond fm-says.process_into.ended fm.process_into.Reads.Learnt
fm_process_into h x y =
    one_answer
    (λ (g : Put Float FmDemodulator). (record { refusal = g.refusal; state = g.state; count = g.count; struck = g.struck }, (tt, (tt, (g.left, tt)))))

pub am_new : NoSecond am-says.new.ended am.new.Reads.Learnt
am_new h x y = one_answer (λ r. (r, tt))

pub am_process_into : NoSecond am-says.process_into.ended am.process_into.Reads.Learnt
am_process_into h x y =
    one_answer
    (λ (g : Put Float AmDemodulator). (record { refusal = g.refusal; state = g.state; count = g.count; struck = g.struck }, (tt, (tt, (g.left, tt)))))

-- ---- the oscillator

pub nco_new : NoSecond nco-says.new.ended nco.new.Reads.Learnt
nco_new h x y = one_answer (λ r. (r, (tt, (tt, tt))))

pub nco_set_freq : NoSecond nco-says.set_freq.ended nco.set_freq.Reads.Learnt
nco_set_freq h x y = one_answer (λ r. (r, (tt, (tt, (tt, tt)))))

pub nco_mix : NoSecond nco-says.mix.ended nco.mix.Reads.Learnt
nco_mix h x y = one_answer (λ g. (g.0, (tt, (g.1, tt))))

pub nco_reset : NoSecond nco-says.reset.ended nco.reset.Reads.Learnt
nco_reset h x y = one_answer (λ r. (r, (tt, tt)))
