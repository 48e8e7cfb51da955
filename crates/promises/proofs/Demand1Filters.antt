-- Demand 1 of the conversions and the filters, call by call: each number is given exactly when document 01's table says, in its order, and a refused call gives
-- back the state handed in (a making call a record of zeros), a count of 0, and every lent place as it was. Each signature spells the demands out. Assumes nothing.
use Prim.Native.Nat.{ℕ, ◌+◌, ◌*◌, ◌/◌}
use mathlib.Core.Path.{refl}
use mathlib.Core.Bool.{Bool, true, false, ◌&&◌}
use mathlib.Core.List.{List}
use lib.Dec.{eqb, leb, ltb}
use lib.ListN.{length}
use lib.Ieee.{Float}
use Rattle.stage.specs.Refusal.{answered}
use Rattle.stage.specs.Length.{is_within, is_even}
use Rattle.converter.specs.Convert.{samples, inverted, converted}
use Rattle.lowpass.specs.Rules.{taps_allowed, cutoff_allowed}
use Rattle.lowpass.specs.Lowpass.{lowpass, designed}
use Rattle.fir.specs.Filter.{count_of}
use Rattle.decimator.specs.declared.Decimator.{Decimator}
use Rattle.decimator.specs.Making as decimator-making
use Rattle.decimator.specs.Process as decimator
use Rattle.decimator.specs.Settling as decimator-settling
use Rattle.hilbert.specs.Rules.{taps_allowed as hilbert_allowed}
use Rattle.hilbert.specs.Making as hilbert-making
use Rattle.hilbert.specs.Process as hilbert
use Rattle.ssb.specs.declared.SsbDemodulator.{SsbDemodulator}
use Rattle.ssb.specs.Making as ssb-making
use Rattle.ssb.specs.Process as ssb
use Rattle.promises.specs.Table.{demands, Refuses}
use Rattle.promises.proofs.Table.{refuses_at, refuses}

-- ---- the conversions and the lowpass design: no state; the target, or the taps, as they were

pub convert : (src : List ℕ) (dst : List Float)
    → Refuses (demands true true (is_within (length src)) (is_even (length src) && eqb (length src) (length dst)) true)
    (λ g. g.0) (converted samples src dst) (λ n. (n, dst))
convert src dst = refuses_at (λ n. answered n (samples src) dst) (λ n. refl) (λ n. refl)

pub convert_inverted : (src : List ℕ) (dst : List Float)
    → Refuses (demands true true (is_within (length src)) (is_even (length src) && eqb (length src) (length dst)) true)
    (λ g. g.0) (converted inverted src dst) (λ n. (n, dst))
convert_inverted src dst = refuses_at (λ n. answered n (inverted src) dst) (λ n. refl) (λ n. refl)

pub design_lowpass : (taps : List Float) (cutoff : Float)
    → Refuses (demands (taps_allowed (length taps) && cutoff_allowed cutoff) true true true true) (λ g. g.0) (designed taps cutoff) (λ n. (n, taps))
design_lowpass taps cutoff = refuses_at (λ n. answered n (lowpass (length taps) cutoff) taps) (λ n. refl) (λ n. refl)

-- ---- the decimator

pub decimator_new : (factor : ℕ) (cutoff : Float) (taps history : List Float)
    → Refuses (demands (leb 2 factor && leb factor 64 && cutoff_allowed cutoff && taps_allowed (length taps)) true true (eqb (length history + 1) (length taps)) true)
    (λ g. g.0.refusal) (decimator-making.made factor cutoff taps history)
    (λ n. (record { refusal = n; state = record { factor = 0; phase = 0 }; count = 0 }, taps, history))
decimator_new factor cutoff taps history = refuses _ refl (λ n. refl)

pub decimator_with_factor : (factor : ℕ) (taps history : List Float)
    → Refuses
    (demands (leb 2 factor && leb factor 64 && taps_allowed (length taps)) true true (eqb (length history + 1) (length taps) && eqb (length taps) (12 * factor + 1)) true)
    (λ g. g.0.refusal) (decimator-making.made_with_factor factor taps history)
    (λ n. (record { refusal = n; state = record { factor = 0; phase = 0 }; count = 0 }, taps, history))
decimator_with_factor factor taps history = refuses _ refl (λ n. refl)

pub decimator_process_into : (d : Decimator) (taps history input output : List Float)
    → Refuses
    (demands (leb 2 d.factor && leb d.factor 64 && ltb d.phase d.factor && taps_allowed (length taps)) true (is_within (length input))
    (eqb (length history + 1) (length taps)) (leb (count_of d.factor d.phase (length input)) (length output)))
    (λ g. g.0.refusal) (decimator.processed d taps history input output) (λ n. (record { refusal = n; state = d; count = 0 }, history, output))
decimator_process_into d taps history input output = refuses _ refl (λ n. refl)

pub decimator_reset : (d : Decimator) (taps history : List Float)
    → Refuses
    (demands (leb 2 d.factor && leb d.factor 64 && ltb d.phase d.factor && taps_allowed (length taps)) true true (eqb (length history + 1) (length taps)) true)
    (λ g. g.0.refusal) (decimator-settling.cleared d taps history) (λ n. (record { refusal = n; state = d; count = 0 }, history))
decimator_reset d taps history = refuses _ refl (λ n. refl)

pub decimator_update_cutoff : (d : Decimator) (cutoff : Float) (taps history : List Float)
    → Refuses
    (demands (leb 2 d.factor && leb d.factor 64 && ltb d.phase d.factor && taps_allowed (length taps) && cutoff_allowed cutoff) true true
    (eqb (length history + 1) (length taps)) true)
    (λ g. g.0.refusal) (decimator-settling.retuned d cutoff taps history) (λ n. (record { refusal = n; state = d; count = 0 }, taps))
decimator_update_cutoff d cutoff taps history = refuses _ refl (λ n. refl)

-- ---- the Hilbert filter, which has no state, and SSB

pub hilbert_new : (taps history : List Float)
    → Refuses (demands (hilbert_allowed (length taps)) true true (eqb (length history + 1) (length taps)) true)
    (λ g. g.0.refusal) (hilbert-making.made taps history) (λ n. (record { refusal = n; count = 0 }, taps, history))
hilbert_new taps history = refuses _ refl (λ n. refl)

pub hilbert_process_into : (taps history input output : List Float)
    → Refuses (demands (hilbert_allowed (length taps)) true (is_within (length input)) (eqb (length history + 1) (length taps)) (leb (length input) (length output)))
    (λ g. g.0.refusal) (hilbert.processed taps history input output) (λ n. (record { refusal = n; count = 0 }, history, output))
hilbert_process_into taps history input output = refuses _ refl (λ n. refl)

pub ssb_new : (usb : Bool) (taps q i : List Float)
    → Refuses
    (demands (hilbert_allowed (length taps)) true true (eqb (length taps) 65 && eqb (length q + 1) (length taps) && eqb (length i) 32) true)
    (λ g. g.0.refusal) (ssb-making.made usb taps q i) (λ n. (record { refusal = n; state = record { is_usb = false }; count = 0 }, taps, q, i))
ssb_new usb taps q i = refuses _ refl (λ n. refl)

pub ssb_process_into : (d : SsbDemodulator) (taps q i input output : List Float)
    → Refuses
    (demands (hilbert_allowed (length taps)) true (is_within (length input))
    (is_even (length input) && (eqb (length taps) 65 && eqb (length q + 1) (length taps) && eqb (length i) 32)) (leb (length input / 2) (length output)))
    (λ g. g.0.refusal) (ssb.processed d taps q i input output) (λ n. (record { refusal = n; state = d; count = 0 }, q, i, output))
ssb_process_into d taps q i input output = refuses _ refl (λ n. refl)
