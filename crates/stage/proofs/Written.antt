-- A slice whose first places are written: what a loop that fills it knows, and the slice at its end. Assumes nothing.
use Prim.Native.Nat.{ℕ, ◌+◌, ◌≤◌, ◌<◌}
use native.Mathlib.Omega.{arith}
use mathlib.Core.Path.{◌≡◌, refl, sym, ap, ◌∙◌}
use mathlib.Core.List.{List}
use lib.ListN.{length, take, drop, set, length-set, take-append-drop}
use lib.Seq.{drop-set-lt, drop-drop, length-take-le}
use Rattle.stage.specs.Layout.{over}

-- the places from k on are as they were in out₀
pub record Written {X : Type 0} (out₀ : List X) (k : ℕ) (out : List X) : Type 0 where
  pub same : length out ≡ length out₀
  pub rest : drop k out ≡ drop k out₀

module _ {X : Type 0} where
  pub written_begins : (out : List X) → Written out 0 out
  written_begins out = record { same = refl; rest = refl }

  pub written_set : {out₀ : List X} {k : ℕ} {out : List X} (o : X) → Written out₀ k out → Written out₀ (k + 1) (set out k o)
  written_set {out₀} {k} {out} o w =
      let more : k < k + 1 = omega arith in
      record {
        same = length-set out k o ∙ w.same;
        rest = drop-set-lt (k + 1) out k o more ∙ sym (drop-drop 1 k out) ∙ ap {B = List X} (λ r. drop 1 r) w.rest ∙ drop-drop 1 k out₀;
      }

  -- with `os` in its first k places the slice is `os` over what it was
  pub written_over : {out₀ : List X} {k : ℕ} {out : List X} (os : List X) → Written out₀ k out → k ≤ length out → take k out ≡ os → out ≡ over os out₀
  written_over {out₀} {k} {out} os w h e =
      let n : length os ≡ k = ap length (sym e) ∙ length-take-le k out h in
      sym (take-append-drop k out) ∙ rw (e, w.rest, n)
