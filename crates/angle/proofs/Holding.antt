-- Values side by side: written one after the other, and four of them as a list. Assumes nothing.
use Prim.Native.Nat.{ℕ, zero, suc, ◌+◌, ◌<◌}
use native.Mathlib.Decide.{dec_lt}
use native.Mathlib.Omega.{arith}
use mathlib.Core.Path.{◌≡◌, refl, ◌∙◌}
use mathlib.Core.List.{List, [], ◌∷◌}
use lib.ListN.{length, get_or, set}
use lib.Seq.{get_or-set_same, get_or-set_other}
use lib.Ieee.{Float, nan}
use Rattle.angle.specs.Lanes.{Holds, four}

-- one more
module _ (f : ℕ → Float) (a : List Float) (n : ℕ) (v : Float) (before : Holds f a n) (room : n < length a) (is : v ≡ f n) where
  at : (l : ℕ) → l < n + 1 → Dec (l < n) → get_or (set a n v) l nan ≡ f l
  at l h (yes below) = get_or-set_other a n l v nan (λ e. omega arith) ∙ before l below
  at l h (no above) =
      let e : l ≡ n = omega arith in
      rw e (get_or-set_same a n v nan room ∙ is)

  pub holds_more : Holds f (set a n v) (n + 1)
  holds_more l h = at l h (dec_lt l n)

pub four_holds : (f : ℕ → Float) → Holds f (four f) 4
four_holds f zero h = refl
four_holds f (suc zero) h = refl
four_holds f (suc (suc zero)) h = refl
four_holds f (suc (suc (suc zero))) h = refl
four_holds f (suc (suc (suc (suc l)))) h = absurd (omega arith)

pub holds_four : (f : ℕ → Float) (a : List Float) → length a ≡ 4 → Holds f a 4 → a ≡ four f
holds_four f [] e h = absurd (omega arith)
holds_four f (a ∷ []) e h = absurd (omega arith)
holds_four f (a ∷ b ∷ []) e h = absurd (omega arith)
holds_four f (a ∷ b ∷ c ∷ []) e h = absurd (omega arith)
holds_four f (a ∷ b ∷ c ∷ d ∷ []) e h = rw (h 0 (omega arith), h 1 (omega arith), h 2 (omega arith), h 3 (omega arith))
holds_four f (a ∷ b ∷ c ∷ d ∷ x ∷ more) e h = absurd (omega arith)
