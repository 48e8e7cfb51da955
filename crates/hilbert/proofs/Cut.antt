-- The cut law: however a stream is cut into calls that are accepted, their outputs in a row are those of the definition over the whole stream,
-- and the last hands on its history. Assumes nothing.
use Prim.Native.Nat.{ℕ, ◌+◌}
use mathlib.Core.Path.{◌≡◌, refl}
use mathlib.Core.List.{List}
use lib.ListN.{length}
use lib.Seq.{take_at}
use lib.Ieee.{Float}
use Rattle.stage.specs.Refusal.{NONE}
use Rattle.stage.proofs.InTurn.{Runs, calls_outs, calls_end, any_calls}
use Rattle.stage.proofs.Refusals.{run_gives, answers_none}
use Rattle.fir.specs.Each.{each_outs}
use Rattle.fir.specs.Dot.{odd_taps}
use Rattle.fir.proofs.Each.{each_length, each_cuts}
use Rattle.hilbert.specs.Process.{process_refusal, accepted, processed}
use Rattle.hilbert.specs.Answers.{answer}
use Rattle.hilbert.specs.Stream.{Call, gives, stream_of, stream_outs, stream_end, AllAccepted, called_outs, called_end}
use Rattle.hilbert.proofs.Accepting.{Sound, process_sound}

module _ (taps : List Float) where
  abbrev number_of : List Float → Call → ℕ
  number_of history c = process_refusal (length taps) (length history) (length c.input) (length c.output)

  module _ (history : List Float) (c : Call) (ok : (gives taps history c).refusal ≡ NONE) where
    -- an accepted call's number is 0
    none : number_of history c ≡ NONE
    none =
        let number = number_of history c in
        answers_none (λ r. r.0.refusal) number (accepted taps history c.input c.output) (answer number 0, history, c.output) refl ok

    pub obeys : Sound (length taps) (length history)
    obeys = process_sound (length taps) (length history) (length c.input) (length c.output) none

    -- so it gives what an accepted call gives
    gave : accepted taps history c.input c.output ≡ processed taps history c.input c.output
    gave = run_gives (number_of history c) _ _ none

    gives_out : (gives taps history c).out ≡ stream_outs taps history c.input
    gives_out = rw (← gave) (take_at (each_outs (odd_taps taps) history c.input) _ _ (each_length (odd_taps taps) refl history c.input))

    gives_end : (gives taps history c).end ≡ stream_end history c.input
    gives_end = rw (← gave)

  runs : Runs (gives taps) (λ c. c.input) (λ history. length taps ≡ length history + 1) (stream_outs taps) stream_end
  runs = record { good = λ history c ok. (obeys history c ok).long; gives_out = gives_out; gives_end = gives_end }

-- ---- the theorem

pub cut : (taps history : List Float) (calls : List Call) → AllAccepted taps history calls
    → (called_outs taps history calls ≡ stream_outs taps history (stream_of calls)) × (called_end taps history calls ≡ stream_end history (stream_of calls))
cut taps history calls ok =
    let cuts = each_cuts (odd_taps taps) refl in
    (calls_outs cuts (runs taps) history calls ok, calls_end cuts (runs taps) history calls ok)

-- so two ways to cut one stream, into any output slices, give the same
pub any_cut : (taps history : List Float) (xs ys : List Call) → stream_of xs ≡ stream_of ys → AllAccepted taps history xs → AllAccepted taps history ys
    → (called_outs taps history xs ≡ called_outs taps history ys) × (called_end taps history xs ≡ called_end taps history ys)
any_cut taps history xs ys e okx oky = any_calls (each_cuts (odd_taps taps) refl) (runs taps) history xs ys e okx oky
