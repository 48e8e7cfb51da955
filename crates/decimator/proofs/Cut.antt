-- The cut law: however a stream is cut into calls that are accepted, their outputs in a row are those of the definition over the whole stream,
-- and the last hands on its phase and its history. Assumes nothing.
use Prim.Native.Nat.{ℕ, ◌+◌, ◌<◌}
use native.Mathlib.Omega.{arith}
use mathlib.Core.Path.{◌≡◌, refl, ap}
use mathlib.Core.List.{List}
use lib.ListN.{length}
use lib.Seq.{take_at}
use lib.Ieee.{Float}
use Rattle.stage.proofs.InTurn.{Cuttable, Runs, calls_outs, calls_end, any_calls}
use Rattle.stage.proofs.Filling.{length_counted}
use Rattle.stage.proofs.Refusals.{run_gives, answers_none}
use Rattle.fir.specs.Filter.{count_of, outputs}
use Rattle.fir.specs.Dot.{every_tap}
use Rattle.fir.proofs.Cut.{outs_of_none, end_of_none, outs_cut, end_cut}
use Rattle.decimator.specs.Process.{memory, process_refusal, accepted, processed}
use Rattle.decimator.specs.Answers.{answer}
use Rattle.decimator.specs.Stream.{Call, Handed, handed, gives, stream_of, stream_outs, stream_end, AllAccepted, called_outs, called_end}
use Rattle.decimator.proofs.Accepting.{process_sound}

-- ---- one call

module _ (taps : List Float) where
  -- what an accepted call knows
  pub record Good (s : Handed) : Type 0 where
    pub some : 0 < s.state.factor
    pub long : length taps ≡ length s.history + 1

  number_of : Handed → Call → ℕ
  number_of s c = process_refusal s.state (length taps) (length s.history) (length c.input) (length c.output)

  module _ (s : Handed) (c : Call) (ok : (gives taps s c).refusal ≡ 0) where
    -- its number is 0
    none : number_of s c ≡ 0
    unfolding number_of
    none =
        let number = number_of s c in
        answers_none (λ r. r.0.refusal) number (accepted s.state taps s.history c.input c.output) (answer number s.state 0, s.history, c.output) refl ok

    pub good : Good s
    unfolding number_of
    good =
        let k = process_sound s.state (length taps) (length s.history) (length c.input) (length c.output) none in
        record { some = omega (arith, k); long = k.long }

    -- so it gives what an accepted call gives
    gave : accepted s.state taps s.history c.input c.output ≡ processed s.state taps s.history c.input c.output
    unfolding number_of
    gave = run_gives (number_of s c) _ _ none

    gives_out : (gives taps s c).out ≡ stream_outs taps s c.input
    unfolding outputs
    gives_out = rw (← gave) (take_at _ _ _ (length_counted _ 0 (count_of s.state.factor s.state.phase (length c.input))))

    gives_end : (gives taps s c).end ≡ stream_end taps s c.input
    gives_end = rw (← gave)

  runs : Runs (gives taps) (λ c. c.input) Good (stream_outs taps) (stream_end taps)
  runs = record { good = good; gives_out = gives_out; gives_end = gives_end }

  -- the definition over a stream can be cut, as any filter's run
  cuts : Cuttable Good (stream_outs taps) (stream_end taps)
  cuts =
      record {
        none_out = λ s. outs_of_none (every_tap s.state.factor taps) (memory s.state s.history);
        none_end = λ s. ap (handed s.state) (end_of_none (every_tap s.state.factor taps) (memory s.state s.history));
        cut_out = λ s a b g. outs_cut (every_tap s.state.factor taps) g.some (memory s.state s.history) a b g.long;
        cut_end = λ s a b g.
            ap (handed s.state) (end_cut (every_tap s.state.factor taps) g.some (memory s.state s.history) a b g.long);
      }

-- ---- the theorem

pub cut : (taps : List Float) (s : Handed) (calls : List Call) → AllAccepted taps s calls
    → (called_outs taps s calls ≡ stream_outs taps s (stream_of calls)) × (called_end taps s calls ≡ stream_end taps s (stream_of calls))
cut taps s calls ok = (calls_outs (cuts taps) (runs taps) s calls ok, calls_end (cuts taps) (runs taps) s calls ok)

-- so two ways to cut one stream, into any output slices, give the same
pub any_cut : (taps : List Float) (s : Handed) (xs ys : List Call) → stream_of xs ≡ stream_of ys → AllAccepted taps s xs → AllAccepted taps s ys
    → (called_outs taps s xs ≡ called_outs taps s ys) × (called_end taps s xs ≡ called_end taps s ys)
any_cut taps s xs ys e okx oky = any_calls (cuts taps) (runs taps) s xs ys e okx oky
