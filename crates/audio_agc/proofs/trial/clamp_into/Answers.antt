-- `audio_agc::trial::clamp_into` meets its contract: place by place it is the definition's. Assumes nothing.
use Prim.Native.Nat.{ℕ, suc, ◌+◌, ◌*◌, ◌-◌, ◌<◌}
use native.Mathlib.Omega.{arith}
use mathlib.Core.Path.{◌≡◌, refl, ◌∙◌}
use mathlib.Core.List.{List, [], ◌∷◌, map}
use lib.ListN.{length, get_or, drop, length-drop}
use lib.Seq.{length-take-le}
use lib.Ieee.{Float, nan}
use Rattle.stage.proofs.Places.{places_more}
use Rattle.audio_agc.specs.Step.{clamp_one}
use borrow.Author.Rules.{rules}
use Rattle.audio_agc.proofs.trial.clamp_into.Goals as goal

-- each place clamped: this is all
all_clamped : (z out : List Float) → length out ≡ length z → ((i : ℕ) → i < length z → get_or out i nan ≡ clamp_one (get_or z i nan)) → out ≡ map clamp_one z
all_clamped [] [] e h = refl
all_clamped [] (o ∷ more) e h = absurd (omega arith)
all_clamped (x ∷ xs) [] e h = absurd (omega arith)
all_clamped (x ∷ xs) (o ∷ more) e h = rw (h 0 (omega arith), all_clamped xs more (omega arith) (λ i lt. h (suc i) (omega arith)))

pub loop-g-preserved : goal.loop-g-preserved
loop-g-preserved c =
    let l = c.loop-g in
    let next : 4 * (l.g + 1) ≡ 4 * l.g + 4 = omega arith in
    let four : 4 * l.g + 4 - 4 * l.g ≡ 4 = omega arith in
    let long = c.copy_from_slice.ensures.len ∙ length-take-le (4 * l.g + 4 - 4 * l.g) (drop (4 * l.g) l.«data») (rw length-drop (omega arith)) ∙ four in
    (search rules, rw (next, four) (places_more nan (λ i. clamp_one (get_or c.args.z.now i nan)) l.«data» _ (4 * l.g) 4 (omega arith) long l.invariant.1 (rw c.copy_from_slice.ensures.after c.four_clamped.ensures)))

pub returns : goal.returns
returns c =
    let l = c.loop-g in
    all_clamped c.args.z.now l.«data» (omega arith) (λ i h. l.invariant.1 i (omega arith))
