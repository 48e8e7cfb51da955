-- The loop of a trial: each sample is worked as the run works it, where the last state is finite. Assumes nothing.
use Prim.Native.Nat.{ℕ, ◌+◌, ◌≤◌, ◌<◌}
use native.Mathlib.Numerals.{add-one}
use native.Mathlib.Omega.{arith}
use mathlib.Core.Path.{◌≡◌, ap, ◌∙◌}
use mathlib.Core.Bool.{true}
use mathlib.Core.List.{List, [], ◌∷◌, ◌++◌, map, map-append}
use lib.ListN.{length, get_or, take, drop, set, drop_of_length-le, length-set}
use lib.Seq.{drop-cons, take-suc-set, take_all}
use lib.Ieee.{Float, nan, binary32, mul, lt}
use lib.Ieee.Scale.{finite}
use Rattle.stage.specs.Floats.{plus_zero}
use Rattle.stage.specs.Lent.{mono}
use Rattle.stage.specs.Call.{gave, ran}
use Rattle.stage.proofs.Going.{Going, going_begins, going_by_one, going_ends}
use Rattle.audio_agc.specs.declared.AudioAgc.{AudioAgc}
use Rattle.audio_agc.specs.Step.{clamp_one, audio_step}
use Rattle.audio_agc.specs.Moved.{Turned}
use Rattle.audio_agc.specs.Process.{audio_stage}
use Rattle.audio_agc.proofs.Tried.{live_kept}

-- what the last state tells of those before it
abbrev pub Fine : AudioAgc → Type 0
Fine s = (finite s.gain ≡ true) × (finite s.envelope ≡ true)

-- from the state s₀ over xs, of whose first k samples z holds what came out
pub record Trying (s₀ : AudioAgc) (xs z : List Float) (s : AudioAgc) (k : ℕ) : Type 0 where
  pub within : k ≤ length xs
  pub same : length z ≡ length xs
  pub low : lt s.min_magnitude s.envelope ≡ true
  pub so_far : Fine s → Going audio_step plus_zero s₀ xs (map clamp_one (take k z)) (drop k xs) s 0

pub trying_begins : (s : AudioAgc) (xs z : List Float) → length z ≡ length xs → lt s.min_magnitude s.envelope ≡ true → Trying s xs z s 0
trying_begins s xs z e low = record { within = omega arith; same = e; low = low; so_far = λ f. going_begins audio_step plus_zero s xs }

pub trying_turns : (s₀ : AudioAgc) (xs z : List Float) (s after : AudioAgc) (k : ℕ) → k < length xs → Turned s (get_or xs k nan) after
    → Trying s₀ xs z s k → Trying s₀ xs (set z k (mul binary32 (get_or xs k nan) after.gain)) after (k + 1)
trying_turns s₀ xs z s after k h t l =
    let x = get_or xs k nan in
    let o = mul binary32 x after.gain in
    let floor = ap (λ (q : AudioAgc). q.min_magnitude) t.moves.stays in
    let envelope = ap (λ (q : AudioAgc). q.envelope) t.moves.stays in
    let next : take (k + 1) (set z k o) ≡ take k z ++ (o ∷ []) = rw add-one (take-suc-set z k o (omega (arith, l.same))) in
    record {
      within = omega arith;
      same = length-set z k o ∙ l.same;
      low = rw (floor, envelope) t.live;
      so_far = λ f.
          let q = live_kept s x after t.moves l.low t.live f in
          rw (next, map-append clamp_one (take k z) (o ∷ []), add-one) (going_by_one audio_step plus_zero q.0 (rw (drop-cons xs k nan h) at (l.so_far q.1)));
    }

pub trying_ends : {s₀ : AudioAgc} {xs z : List Float} {s : AudioAgc} {k : ℕ} → Trying s₀ xs z s k → length xs ≤ k → Fine s
    → gave s 0 (map clamp_one z) ≡ ran audio_stage mono s₀ xs
trying_ends {xs = xs} {z} {k = k} l h f =
    let all = take_all k z (omega (arith, l.same)) in
    let e = going_ends audio_step plus_zero (rw (all, drop_of_length-le xs h) at (l.so_far f)) in
    rw (← e.0, ← e.1, ← e.2)
