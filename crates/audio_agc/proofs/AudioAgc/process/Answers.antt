-- `audio_agc::AudioAgc::process` meets its contract: its loop goes on by a block whose run is the definition's. Assumes nothing.
use Prim.Native.Nat.{ℕ, ◌-◌, ◌+◌, ◌*◌, ◌/◌, ◌≤◌}
use native.Mathlib.Nat.{add-zero}
use native.Mathlib.Omega.{arith}
use mathlib.Core.Path.{◌≡◌, refl, ◌∙◌}
use mathlib.Core.List.{List}
use lib.ListN.{length, take, drop, length-drop}
use lib.Seq.{length-take-le}
use lib.Ieee.{Float}
use borrow.Rule.Slice.PartMut.{put_mid}
use Rattle.stage.specs.Floats.{plus_zero}
use Rattle.stage.specs.Run.{outs, end, strikes}
use Rattle.stage.specs.Lent.{mono}
use Rattle.stage.specs.Call.{gave, ran}
use Rattle.stage.proofs.Gives.{met_gives}
use Rattle.stage.proofs.InParts.{PartLoop, mono_row, strikes_le, part_turns, part_ends}
use Rattle.audio_agc.specs.declared.AudioAgc.{AudioAgc}
use Rattle.audio_agc.specs.Step.{audio_step}
use Rattle.audio_agc.specs.Process.{audio_stage}
use borrow.Author.Rules.{rules}
use Rattle.audio_agc.proofs.AudioAgc.process.Goals as goal
use Rattle.audio_agc.proofs.AudioAgc.process.Goals.{in-Some, in-None}

-- the part from k to e, whose run leaves ys at the state t with m struck
part : {s₀ s t : AudioAgc} {xs₀ xs ys : List Float} {n m k : ℕ} (e : ℕ) → PartLoop audio_stage mono s₀ xs₀ xs s n k → k ≤ e → e ≤ length xs
    → gave t m ys ≡ ran audio_stage mono s (take (e - k) (drop k xs)) → length ys ≡ length (take (e - k) (drop k xs))
    → PartLoop audio_stage mono s₀ xs₀ (put_mid k (e - k) xs ys) t (n + m) e
part {xs = xs} {k = k} e l h room is long =
    part_turns audio_stage mono (mono_row audio_stage) e _ l h room refl is (long ∙ length-take-le (e - k) (drop k xs) (rw length-drop (omega arith)))

-- what a run over samples leaves
was_run : (s : AudioAgc) (xs : List Float) {t : AudioAgc} {ys : List Float} {m : ℕ} → ys ≡ outs audio_step plus_zero s xs → t ≡ end audio_step s xs → m ≡ strikes audio_step s xs
    → gave t m ys ≡ ran audio_stage mono s xs
was_run s xs a b d = rw (a, b, d) refl

pub overflow_add-struck : goal.overflow_add-struck
overflow_add-struck c =
    let few : c.run_mono-ran.result.struck ≤ length c.try_block.new.data = rw c.run_mono-ran.ensures.struck (strikes_le audio_step c.loop-b.self c.try_block.new.data) in
    search rules

pub loop-b-preserved : goal.loop-b-preserved
loop-b-preserved c =
    let l = c.loop-b in
    let next : 32 * (l.b + 1) ≡ 32 * l.b + 32 = omega arith in
    elim c.match-try_block.branch [
      | in-Some w ↦ rw (next, w.self-is, w.data-is, w.struck-is, ← add-zero l.struck)
          (part (32 * l.b + 32) l.invariant (omega arith) (omega arith) (c.try_block.ensures.kept _ w.in-Some.is) c.try_block.auto.data)
      | in-None w ↦
          let r = w.run_mono-ran.ensures in
          let same = c.try_block.ensures.left w.in-None.is in
          rw (next, w.self-is, w.data-is, w.struck-is)
          (part (32 * l.b + 32) l.invariant (omega arith) (omega arith) (rw same at (was_run _ _ r.left r.state r.struck)) (w.run_mono-ran.auto.data ∙ c.try_block.auto.data))
    ]

pub overflow_add-struck-2 : goal.overflow_add-struck-2
overflow_add-struck-2 c =
    let l = c.loop-b in
    let k = 32 * (length c.args.«data».now / 32) in
    let rest = take (length l.«data» - k) (drop k l.«data») in
    let size : length rest ≡ length l.«data» - k = length-take-le (length l.«data» - k) (drop k l.«data») (rw length-drop (omega arith)) in
    let few : c.run_mono-ran-2.result.struck ≤ length rest = rw c.run_mono-ran-2.ensures.struck (strikes_le audio_step l.self rest) in
    search rules

pub returns : goal.returns
returns c =
    let l = c.loop-b in
    let r = c.run_mono-ran-2.ensures in
    let all : l.b ≡ length c.args.«data».now / 32 = omega arith in
    let last = part (length l.«data») (rw all at l.invariant) (omega arith) (omega arith) (was_run _ _ r.left r.state r.struck) c.run_mono-ran-2.auto.data in
    rw c.answer-2.ensures
    (met_gives audio_stage mono c.args.self c.args.«data».now (rw c.within.ensures at c.in_default.ensures) (part_ends audio_stage mono (mono_row audio_stage) last (omega arith)))
