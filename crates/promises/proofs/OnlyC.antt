-- No second answer meets the contract of any C name: each says of its answer what the call that it hands on to says. Assumes nothing.
use Rattle.threshlantern.proofs as c
use Rattle.threshlantern.specs.contracts as c-says
use Rattle.promises.specs.Contract.{NoSecond}
use Rattle.promises.proofs.OnlyNumbers as number
use Rattle.promises.proofs.OnlyStages as stage

-- ---- conversion

pub tl_convert : NoSecond c-says.conversion.tl_convert.ended c.conversion.tl_convert.Reads.Learnt
tl_convert = stage.convert

pub tl_convert_inverted : NoSecond c-says.conversion.tl_convert_inverted.ended c.conversion.tl_convert_inverted.Reads.Learnt
tl_convert_inverted = stage.convert_inverted

-- ---- filters

pub tl_design_lowpass : NoSecond c-says.filters.tl_design_lowpass.ended c.filters.tl_design_lowpass.Reads.Learnt
tl_design_lowpass = stage.design_lowpass

pub tl_decimator_new : NoSecond c-says.filters.tl_decimator_new.ended c.filters.tl_decimator_new.Reads.Learnt
tl_decimator_new = stage.decimator_new

pub tl_decimator_with_factor : NoSecond c-says.filters.tl_decimator_with_factor.ended c.filters.tl_decimator_with_factor.Reads.Learnt
tl_decimator_with_factor = stage.decimator_with_factor

pub tl_decimator_process_into : NoSecond c-says.filters.tl_decimator_process_into.ended c.filters.tl_decimator_process_into.Reads.Learnt
tl_decimator_process_into = stage.decimator_process_into

pub tl_decimator_reset : NoSecond c-says.filters.tl_decimator_reset.ended c.filters.tl_decimator_reset.Reads.Learnt
tl_decimator_reset = stage.decimator_reset

pub tl_decimator_update_cutoff : NoSecond c-says.filters.tl_decimator_update_cutoff.ended c.filters.tl_decimator_update_cutoff.Reads.Learnt
tl_decimator_update_cutoff = stage.decimator_update_cutoff

-- ---- levels

pub tl_dc_remover_new : NoSecond c-says.levels.tl_dc_remover_new.ended c.levels.tl_dc_remover_new.Reads.Learnt
tl_dc_remover_new = stage.dc_remover_new

pub tl_dc_remover_process : NoSecond c-says.levels.tl_dc_remover_process.ended c.levels.tl_dc_remover_process.Reads.Learnt
tl_dc_remover_process = stage.dc_remover_process

pub tl_dc_remover_process_mono : NoSecond c-says.levels.tl_dc_remover_process_mono.ended c.levels.tl_dc_remover_process_mono.Reads.Learnt
tl_dc_remover_process_mono = stage.dc_remover_process_mono

pub tl_dc_remover_process_split : NoSecond c-says.levels.tl_dc_remover_process_split.ended c.levels.tl_dc_remover_process_split.Reads.Learnt
tl_dc_remover_process_split = stage.dc_remover_process_split

pub tl_agc_new : NoSecond c-says.levels.tl_agc_new.ended c.levels.tl_agc_new.Reads.Learnt
tl_agc_new = stage.agc_new

pub tl_agc_process : NoSecond c-says.levels.tl_agc_process.ended c.levels.tl_agc_process.Reads.Learnt
tl_agc_process = stage.agc_process

pub tl_audio_agc_new : NoSecond c-says.levels.tl_audio_agc_new.ended c.levels.tl_audio_agc_new.Reads.Learnt
tl_audio_agc_new = stage.audio_agc_new

pub tl_audio_agc_process : NoSecond c-says.levels.tl_audio_agc_process.ended c.levels.tl_audio_agc_process.Reads.Learnt
tl_audio_agc_process = stage.audio_agc_process

-- ---- demodulators

pub tl_fm_new : NoSecond c-says.demodulators.tl_fm_new.ended c.demodulators.tl_fm_new.Reads.Learnt
tl_fm_new = stage.fm_new

pub tl_fm_with_deemphasis : NoSecond c-says.demodulators.tl_fm_with_deemphasis.ended c.demodulators.tl_fm_with_deemphasis.Reads.Learnt
tl_fm_with_deemphasis = stage.fm_with_deemphasis

pub tl_fm_process_into : NoSecond c-says.demodulators.tl_fm_process_into.ended c.demodulators.tl_fm_process_into.Reads.Learnt
tl_fm_process_into = stage.fm_process_into

pub tl_am_new : NoSecond c-says.demodulators.tl_am_new.ended c.demodulators.tl_am_new.Reads.Learnt
tl_am_new = stage.am_new

pub tl_am_process_into : NoSecond c-says.demodulators.tl_am_process_into.ended c.demodulators.tl_am_process_into.Reads.Learnt
tl_am_process_into = stage.am_process_into

-- ---- sidebands

pub tl_hilbert_new : NoSecond c-says.sidebands.tl_hilbert_new.ended c.sidebands.tl_hilbert_new.Reads.Learnt
tl_hilbert_new = stage.hilbert_new

pub tl_hilbert_process_into : NoSecond c-says.sidebands.tl_hilbert_process_into.ended c.sidebands.tl_hilbert_process_into.Reads.Learnt
tl_hilbert_process_into = stage.hilbert_process_into

pub tl_ssb_new : NoSecond c-says.sidebands.tl_ssb_new.ended c.sidebands.tl_ssb_new.Reads.Learnt
tl_ssb_new = stage.ssb_new

pub tl_ssb_process_into : NoSecond c-says.sidebands.tl_ssb_process_into.ended c.sidebands.tl_ssb_process_into.Reads.Learnt
tl_ssb_process_into = stage.ssb_process_into

-- ---- oscillator

pub tl_nco_new : NoSecond c-says.oscillator.tl_nco_new.ended c.oscillator.tl_nco_new.Reads.Learnt
tl_nco_new = stage.nco_new

pub tl_nco_set_freq : NoSecond c-says.oscillator.tl_nco_set_freq.ended c.oscillator.tl_nco_set_freq.Reads.Learnt
tl_nco_set_freq = stage.nco_set_freq

pub tl_nco_mix : NoSecond c-says.oscillator.tl_nco_mix.ended c.oscillator.tl_nco_mix.Reads.Learnt
tl_nco_mix = stage.nco_mix

pub tl_nco_reset : NoSecond c-says.oscillator.tl_nco_reset.ended c.oscillator.tl_nco_reset.Reads.Learnt
tl_nco_reset = stage.nco_reset

-- ---- numbers

pub tl_sqrt : NoSecond c-says.numbers.tl_sqrt.ended c.numbers.tl_sqrt.Reads.Learnt
tl_sqrt = number.sqrt

pub tl_narrow : NoSecond c-says.numbers.tl_narrow.ended c.numbers.tl_narrow.Reads.Learnt
tl_narrow = number.narrow

pub tl_narrow_alone : NoSecond c-says.numbers.tl_narrow_alone.ended c.numbers.tl_narrow_alone.Reads.Learnt
tl_narrow_alone = number.narrow_alone

pub tl_widen : NoSecond c-says.numbers.tl_widen.ended c.numbers.tl_widen.Reads.Learnt
tl_widen = number.widen

pub tl_whole : NoSecond c-says.numbers.tl_whole.ended c.numbers.tl_whole.Reads.Learnt
tl_whole = number.whole

pub tl_finite_f32 : NoSecond c-says.numbers.tl_finite_f32.ended c.numbers.tl_finite_f32.Reads.Learnt
tl_finite_f32 = number.finite_f32

pub tl_finite_f64 : NoSecond c-says.numbers.tl_finite_f64.ended c.numbers.tl_finite_f64.Reads.Learnt
tl_finite_f64 = number.finite_f64

pub tl_magnitude_f32 : NoSecond c-says.numbers.tl_magnitude_f32.ended c.numbers.tl_magnitude_f32.Reads.Learnt
tl_magnitude_f32 = number.magnitude_f32

pub tl_magnitude_f64 : NoSecond c-says.numbers.tl_magnitude_f64.ended c.numbers.tl_magnitude_f64.Reads.Learnt
tl_magnitude_f64 = number.magnitude_f64

pub tl_sine : NoSecond c-says.numbers.tl_sine.ended c.numbers.tl_sine.Reads.Learnt
tl_sine = number.sine

pub tl_cosine : NoSecond c-says.numbers.tl_cosine.ended c.numbers.tl_cosine.Reads.Learnt
tl_cosine = number.cosine

pub tl_arctangent : NoSecond c-says.numbers.tl_arctangent.ended c.numbers.tl_arctangent.Reads.Learnt
tl_arctangent = number.arctangent

pub tl_sine_f32 : NoSecond c-says.numbers.tl_sine_f32.ended c.numbers.tl_sine_f32.Reads.Learnt
tl_sine_f32 = number.sine_f32

pub tl_cosine_f32 : NoSecond c-says.numbers.tl_cosine_f32.ended c.numbers.tl_cosine_f32.Reads.Learnt
tl_cosine_f32 = number.cosine_f32

pub tl_arctangent_f32 : NoSecond c-says.numbers.tl_arctangent_f32.ended c.numbers.tl_arctangent_f32.Reads.Learnt
tl_arctangent_f32 = number.arctangent_f32
