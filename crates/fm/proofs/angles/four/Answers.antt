-- `fm::angles::four` meets its contract: behind the angles that stand there lie the four of its lanes. Assumes nothing.
use mathlib.Core.Path.{◌≡◌, refl}
use mathlib.Core.List.{List}
use Prim.Native.Nat.{ℕ, ◌+◌, ◌*◌, ◌-◌}
use native.Mathlib.Omega.{arith}
use lib.Ieee.{Float, nan}
use Rattle.angle.specs.Single.{arctan32}
use Rattle.angle.specs.Lanes.{lane, Holds, arctans32}
use Rattle.angle.proofs.Holding.{four_holds}
use Rattle.stage.proofs.Places.{places_more}
use Rattle.fm.specs.Step.{angle_of}
use Rattle.fm.specs.Angles.{angle_at}
use Rattle.fm.proofs.angles.four.Goals as goal

-- lane l is pair k + l
lanes-angles : (input a q i : List Float) (k : ℕ) → a ≡ arctans32 q i → Holds (λ l. lane input (2 * k + 1 + 2 * l)) q 4 → Holds (λ l. lane input (2 * k + 2 * l)) i 4
    → Holds (λ l. angle_at input (k + l)) a 4
unfolding angle_of
lanes-angles input a q i k e of-q of-i l h =
    let second : 2 * k + 1 + 2 * l ≡ 2 * (k + l) + 1 = omega arith in
    let first : 2 * k + 2 * l ≡ 2 * (k + l) = omega arith in
    rw (e, four_holds (λ l. arctan32 (lane q l) (lane i l)) l h, of-q l h, of-i l h, second, first)

pub returns : goal.returns
returns c =
    let q = c.every_second-q in
    let i = c.every_second-i in
    let a = c.args in
    let four : a.k + 4 - a.k ≡ 4 = omega arith in
    let is = lanes-angles a.input.now c.arctangents_f32-a.result q.result i.result a.k c.arctangents_f32-a.ensures q.ensures i.ensures in
    rw four (places_more nan (angle_at a.input.now) a.output.now c.copy_from_slice.new.self a.k 4 (omega arith) (rw (c.copy_from_slice.ensures.after, c.arctangents_f32-a.ensures) refl) c.requires.before (rw c.copy_from_slice.ensures.after is))
