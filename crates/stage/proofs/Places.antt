-- A list known place by place, of which a part is written at once. Assumes nothing.
use Prim.Native.Nat.{ℕ, ◌+◌, ◌-◌, ◌≤◌, ◌<◌}
use native.Mathlib.Decide.{dec_lt}
use native.Mathlib.Omega.{arith}
use mathlib.Core.Path.{◌≡◌, ◌∙◌}
use mathlib.Core.List.{List}
use lib.ListN.{length, get_or, take, get_or-append}
use lib.Seq.{length-take-le}
use Rattle.std.proofs.lemmas.List.{get_or-take, get_or-append_right}
use borrow.Rule.Slice.PartMut.{put_mid}

-- the first k places hold f; with n more behind them that hold it too, the first k + n do
module _ {X : Type 0} (d : X) (f : ℕ → X) (out more : List X) (k n : ℕ) (room : k + n ≤ length out) (long : length more ≡ n)
    (before : (l : ℕ) → l < k → get_or out l d ≡ f l) (new : (l : ℕ) → l < n → get_or more l d ≡ f (k + l)) where
  at : (l : ℕ) → l < k + n → Dec (l < k) → get_or (put_mid k n out more) l d ≡ f l
  at l h (yes below) = get_or-append (take k out) _ d l (rw (length-take-le k out (omega arith)) below) ∙ get_or-take k out l d below ∙ before l below
  at l h (no above) =
      let back : k + (l - k) ≡ l = omega arith in
      get_or-append_right (take k out) _ k l d (length-take-le k out (omega arith)) (omega arith) ∙ get_or-append more _ d (l - k) (omega arith) ∙ rw back at (new (l - k) (omega arith))

  pub places_more : (l : ℕ) → l < k + n → get_or (put_mid k n out more) l d ≡ f l
  places_more l h = at l h (dec_lt l k)
