-- What each call of the oscillator gives, on acceptance and on refusal. Definitions only.
use Rattle.std.specs.Prelude.{ℕ, List, length, Float}
use Rattle.std.specs.Float.{binary64}
use Rattle.std.specs.Float.Ieee.{of_bits}
use Rattle.angle.specs.Turn.{pulled}
use Rattle.stage.specs.Refusal.{unless}
use Rattle.nco.specs.declared.Nco.{Nco}
use Rattle.nco.specs.declared.NcoDone.{NcoDone}
use Rattle.nco.specs.Mix.{increment_of, tuned_at, mixed_outs, phase_after}
use Rattle.nco.specs.Rules.{tuning_refusal, retuning_refusal, mixing_refusal, resting_refusal}

-- a state in an answer
abbrev pub answered : ℕ → Nco → NcoDone
answered number s = record { refusal = number; state = s }

-- the number, and the state `run` where it is 0, else `refused`
abbrev pub given : ℕ → Nco → Nco → NcoDone
given number run refused = answered number (unless number run refused)

-- a record of zeros
abbrev pub nought : Float
nought = of_bits binary64 0

abbrev pub zeros : Nco
zeros = record { phase = nought; phase_inc = nought; rotator_i = nought; rotator_q = nought }

-- the same oscillator at another phase
abbrev pub at : Nco → Float → Nco
at s phase = record { phase = phase; phase_inc = s.phase_inc; rotator_i = s.rotator_i; rotator_q = s.rotator_q }

-- new
unfoldable pub made : Float → Float → NcoDone
made freq rate = given (tuning_refusal freq rate) (tuned_at nought (increment_of freq rate)) zeros

-- set_freq keeps the phase
unfoldable pub retuned : Nco → Float → Float → NcoDone
retuned s freq rate = given (retuning_refusal s freq rate) (tuned_at s.phase (increment_of freq rate)) s

-- mix: the answer, and the slice; one turn is taken off the phase at the end
unfoldable pub mixed : Nco → List Float → NcoDone × List Float
mixed s iq =
    let number = mixing_refusal s (length iq) in
    (given number (at s (pulled (phase_after s iq))) s, unless number (mixed_outs s iq) iq)

-- reset
unfoldable pub cleared : Nco → NcoDone
cleared s = given (resting_refusal s) (at s nought) s
