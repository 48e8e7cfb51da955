-- One tap of all lanes, lane by lane. Assumes nothing.
use mathlib.Core.Path.{◌≡◌, refl, ◌∙◌}
use mathlib.Core.List.{List}
use mathlib.Core.Logic.{⊎_elim}
use Prim.Native.Nat.{ℕ, ◌+◌, ◌*◌, ◌≤◌, ◌<◌}
use native.Mathlib.Omega.{arith}
use lib.ListN.{length, get_or, set}
use lib.Seq.{get_or-set_same, get_or-set_other}
use lib.Ieee.{Float, nan, binary32, add, mul}
use Rattle.fir.proofs.Counting.{lt_or_ge}

module _ (acc₀ x : List Float) (place step : ℕ) (tap : Float) where
  -- the lanes before l have taken the tap, the others have not
  pub record Turning (acc : List Float) (l : ℕ) : Type 0 where
    pub done : (m : ℕ) → m < l → get_or acc m nan ≡ add binary32 (get_or acc₀ m nan) (mul binary32 (get_or x (place + m * step) nan) tap)
    pub rest : (m : ℕ) → l ≤ m → get_or acc m nan ≡ get_or acc₀ m nan

  pub turning_start : Turning acc₀ 0
  turning_start = record { done = λ m h. absurd (omega arith); rest = λ m h. refl }

  pub turning_step : (acc : List Float) (l : ℕ) → Turning acc l → l < length acc
      → Turning (set acc l (add binary32 (get_or acc l nan) (mul binary32 (get_or x (place + l * step) nan) tap))) (l + 1)
  turning_step acc l t room =
      let v : Float = add binary32 (get_or acc l nan) (mul binary32 (get_or x (place + l * step) nan) tap) in
      record {
        done = λ m h.
            ⊎_elim
            (λ lt. get_or-set_other acc l m v nan (λ e. omega arith) ∙ t.done m lt)
            (λ ge.
            let e : m ≡ l = omega arith in
            let r : get_or acc l nan ≡ get_or acc₀ l nan = t.rest l (omega arith) in
            rw (e, get_or-set_same acc l v nan room, r))
            (lt_or_ge m l);
        rest = λ m h. get_or-set_other acc l m v nan (λ e. omega arith) ∙ t.rest m (omega arith);
      }
