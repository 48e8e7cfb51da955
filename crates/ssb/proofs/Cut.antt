-- The cut law: however a stream is cut into calls that are accepted, their outputs in a row are those of the definition over the whole stream,
-- and the last hands on its histories. Assumes nothing.
use Prim.Native.Nat.{ℕ}
use native.Mathlib.Omega.{arith}
use mathlib.Core.Path.{◌≡◌, refl, ap, ◌∙◌}
use mathlib.Core.List.{List}
use lib.ListN.{length}
use lib.Seq.{take_at}
use lib.Ieee.{Float}
use Rattle.stage.specs.Refusal.{NONE}
use Rattle.stage.specs.Layout.{pairs}
use Rattle.stage.proofs.Layouts.{length_pairs}
use Rattle.stage.proofs.InTurn.{Cuttable, Runs, calls_outs, calls_end, any_calls}
use Rattle.stage.proofs.Refusals.{run_gives, answers_none}
use Rattle.ssb.specs.Answers.{answer}
use Rattle.ssb.specs.Sideband.{ssb_outs}
use Rattle.ssb.specs.Process.{process_refusal, accepted, processed}
use Rattle.ssb.specs.Ready.{Ready}
use Rattle.ssb.specs.Stream.{Call, Handed, handed, gives, stream_of, stream_outs, stream_end, AllAccepted, called_outs, called_end}
use Rattle.ssb.proofs.Accepting.{process_ready}
use Rattle.ssb.proofs.Cutting.{Fits, outs_length, ssb_cuts}

module _ (taps : List Float) where
  abbrev number_of : Handed → Call → ℕ
  number_of s c = process_refusal (length taps) (length s.held.q) (length s.held.i) (length c.input) (length c.output)

  module _ (s : Handed) (c : Call) (ok : (gives taps s c).refusal ≡ NONE) where
    -- an accepted call's number is 0
    none : number_of s c ≡ NONE
    none =
        let number = number_of s c in
        answers_none (λ r. r.0.refusal) number (accepted s.state taps s.held c.input c.output)
        (answer number s.state 0, s.held.q, s.held.i, c.output) refl ok

    pub obeys : Ready (length taps) (length s.held.q) (length s.held.i)
    obeys = (process_ready (length taps) (length s.held.q) (length s.held.i) (length c.input) (length c.output) none).0

    -- so it gives what an accepted call gives
    gave : accepted s.state taps s.held c.input c.output ≡ processed s.state taps s.held.q s.held.i c.input c.output
    gave = run_gives (number_of s c) _ _ none

    gives_out : (gives taps s c).out ≡ stream_outs taps s (pairs c.input)
    gives_out =
        rw (← gave)
        (take_at (ssb_outs s.state.is_usb taps s.held (pairs c.input)) _ _
        (outs_length s.state.is_usb taps s.held (pairs c.input) ∙ length_pairs c.input))

    gives_end : (gives taps s c).end ≡ stream_end s (pairs c.input)
    gives_end = rw (← gave)

    fits : Fits taps s.held
    fits = record { q = omega (arith, obeys); i = omega (arith, obeys) }

  runs : Runs (gives taps) (λ c. pairs c.input) (λ s. Fits taps s.held) (stream_outs taps) stream_end
  runs = record { good = fits; gives_out = gives_out; gives_end = gives_end }

  cuts : Cuttable (λ s. Fits taps s.held) (stream_outs taps) stream_end
  cuts =
      record {
        none_out = λ s. (ssb_cuts s.state.is_usb taps).none_out s.held;
        none_end = λ s. ap (handed s.state) ((ssb_cuts s.state.is_usb taps).none_end s.held);
        cut_out = λ s a b fit. (ssb_cuts s.state.is_usb taps).cut_out s.held a b fit;
        cut_end = λ s a b fit. ap (handed s.state) ((ssb_cuts s.state.is_usb taps).cut_end s.held a b fit);
      }

-- ---- the theorem

pub cut : (taps : List Float) (s : Handed) (calls : List Call) → AllAccepted taps s calls
    → (called_outs taps s calls ≡ stream_outs taps s (stream_of calls)) × (called_end taps s calls ≡ stream_end s (stream_of calls))
cut taps s calls ok = (calls_outs (cuts taps) (runs taps) s calls ok, calls_end (cuts taps) (runs taps) s calls ok)

-- so two ways to cut one stream, into any output slices, give the same
pub any_cut : (taps : List Float) (s : Handed) (xs ys : List Call) → stream_of xs ≡ stream_of ys → AllAccepted taps s xs → AllAccepted taps s ys
    → (called_outs taps s xs ≡ called_outs taps s ys) × (called_end taps s xs ≡ called_end taps s ys)
any_cut taps s xs ys e okx oky = any_calls (cuts taps) (runs taps) s xs ys e okx oky
