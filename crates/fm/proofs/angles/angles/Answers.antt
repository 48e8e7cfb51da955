-- `fm::angles::angles` meets its contract. The loop's invariant: the angles of the pairs before k are written. Assumes nothing.
use mathlib.Core.Path.{◌≡◌, refl, ◌∙◌}
use mathlib.Core.List.{List, [], ◌∷◌, map}
use Prim.Native.Nat.{ℕ, suc, ◌+◌, ◌*◌}
use native.Mathlib.Omega.{arith}
use lib.ListN.{length, length-set}
use lib.Ieee.{Float}
use Rattle.angle.specs.Lanes.{Holds}
use Rattle.angle.proofs.Holding.{holds_more}
use Rattle.stage.specs.Layout.{pairs}
use Rattle.fm.specs.Step.{angle_of}
use Rattle.fm.specs.Angles.{angle_at}
use Rattle.fm.proofs.angles.angles.Goals as goal

-- behind the first pair each has one place less
next_pair : (i q : Float) (xs : List Float) (j : ℕ) → angle_at (i ∷ q ∷ xs) (suc j) ≡ angle_at xs j
next_pair i q xs j =
    let second : 2 * suc j + 1 ≡ suc (suc (2 * j + 1)) = omega arith in
    let first : 2 * suc j ≡ suc (suc (2 * j)) = omega arith in
    rw (second, first)

-- the angle of its pair in each place: these are all
all-angles : (input output : List Float) → length input ≡ length output + length output → Holds (angle_at input) output (length output) → output ≡ map angle_of (pairs input)
all-angles [] [] e h = refl
all-angles (i ∷ xs) [] e h = absurd (omega arith)
all-angles [] (a ∷ more) e h = absurd (omega arith)
all-angles (i ∷ []) (a ∷ more) e h = absurd (omega arith)
all-angles (i ∷ q ∷ xs) (a ∷ more) e h =
    rw (h 0 (omega arith), all-angles xs more (omega arith) (λ j lt. h (suc j) (omega arith) ∙ next_pair i q xs j))

pub loop-k-preserved : goal.loop-k-preserved
unfolding angle_of
loop-k-preserved c =
    let l = c.loop-k in
    (simp length-set l.invariant.0, holds_more _ l.output l.k c.arctangent_f32.result l.invariant.1 (omega arith) c.arctangent_f32.ensures)

pub returns : goal.returns
returns c =
    let l = c.loop-k in
    all-angles c.args.input.now l.output (rw l.invariant.0 c.requires) (λ j h. l.invariant.1 j (omega arith))
