-- Sixteen bytes side by side: what the lanes hold is the next sixteen values, and a slice that is filled with them is filled so far. Assumes nothing.
use Prim.Native.Nat.{ℕ, zero, suc, ◌+◌, ◌≤◌}
use native.Mathlib.Omega.{arith}
use mathlib.Core.Path.{◌≡◌, refl, ap, ◌∙◌}
use mathlib.Core.List.{List, [], ◌∷◌, ◌++◌, map, append_assoc}
use lib.ListN.{length, drop, take, length-append, length-drop}
use lib.Seq.{length-take-le}
use lib.Lanes.{zip2, chunk, put_chunk}
use lib.Ieee.{Float}
use Rattle.std.proofs.lemmas.Simd.{length-put_chunk, take_more_put_chunk, chunk-drop}
use Rattle.stage.proofs.Filling.{Filling}
use Rattle.converter.specs.Convert.{sample_of, in_pairs}

-- ---- the lanes

-- n pairs of lanes that hold a and b
abbrev pub lanes : {A : Type 0} → ℕ → A → A → List A
lanes zero a b = []
lanes (suc n) a b = a ∷ b ∷ lanes n a b

module _ (div sub : Float → Float → Float) (cast : ℕ → Float) (f : ℕ → Float) (m d : Float)
    (of_i : (s : ℕ) → div (sub (cast s) m) m ≡ sample_of s) (of_q : (s : ℕ) → div (sub (cast s) m) d ≡ f s) where
  pub values : (n : ℕ) (bytes : List ℕ) → length bytes ≡ n + n → zip2 div (zip2 sub (map cast bytes) (lanes n m m)) (lanes n m d) ≡ in_pairs f bytes
  values zero [] e = refl
  values zero (i ∷ r) e = absurd (omega arith)
  values (suc n) [] e = absurd (omega arith)
  values (suc n) (i ∷ []) e = absurd (omega arith)
  values (suc n) (i ∷ q ∷ r) e = rw (of_i i, of_q q, values n r (omega arith))

-- ---- the next of a slice of bytes

pairs_append : (f : ℕ → Float) (n : ℕ) (xs ys : List ℕ) → length xs ≡ n + n → in_pairs f (xs ++ ys) ≡ in_pairs f xs ++ in_pairs f ys
pairs_append f zero [] ys e = refl
pairs_append f zero (i ∷ r) ys e = absurd (omega arith)
pairs_append f (suc n) [] ys e = absurd (omega arith)
pairs_append f (suc n) (i ∷ []) ys e = absurd (omega arith)
pairs_append f (suc n) (i ∷ q ∷ r) ys e = ap {B = List Float} (λ vs. sample_of i ∷ f q ∷ vs) (pairs_append f n r ys (omega arith))

module _ (src : List ℕ) (i : ℕ) (here : i + 16 ≤ length src) where
  pub sixteen : length (chunk i 16 src) ≡ 16
  sixteen = length-take-le 16 (drop i src) (rw length-drop (omega arith))

  pub next_sixteen : (f : ℕ → Float) → in_pairs f (drop i src) ≡ in_pairs f (chunk i 16 src) ++ in_pairs f (drop (i + 16) src)
  next_sixteen f = ap (in_pairs f) (chunk-drop i 16 src) ∙ pairs_append f 8 (chunk i 16 src) (drop (i + 16) src) sixteen

-- ---- the slice

-- `vs` is what a vector holds, and m the place behind it
pub filling_block : {X : Type 0} {goal : List X} {i m : ℕ} {rest out vs : List X} (ws : List X) → vs ≡ ws → m ≡ i + length ws → Filling goal i (ws ++ rest) out
    → Filling goal m rest (put_chunk i out vs)
filling_block {X} {goal} {i} {m} {rest} {out} {vs} ws is behind f =
    let so_far : length (take i out) + (length ws + length rest) ≡ length goal =
    rw (← length-append ws rest, ← length-append (take i out) (ws ++ rest)) (ap length f.so_far) in
    let room : m ≤ length out = omega (arith, length-take-le i out f.within, f.same) in
    rw is
    record {
      within = rw length-put_chunk room;
      same = length-put_chunk i out ws ∙ f.same;
      so_far = rw (take_more_put_chunk i out ws m behind room, append_assoc) f.so_far;
    }
