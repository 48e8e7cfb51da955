-- The history after a block, in its two cases. Assumes nothing.
use mathlib.Core.Path.{◌≡◌, sym, ap, ◌∙◌}
use mathlib.Core.List.{List, ◌++◌}
use Prim.Native.Nat.{ℕ, ◌+◌, ◌-◌, ◌≤◌, ◌<◌}
use native.Mathlib.Omega.{arith}
use lib.ListN.{length, get_or, set, take, drop, length-drop}
use lib.Seq.{take-suc, take-suc-set, get_or-drop, drop-append-add, drop-append-le}
use lib.Ieee.{Float, nan}
use Rattle.fir.specs.Filter.{kept}
use Rattle.std.proofs.lemmas.List.{take_rest, drop-drop, drop-set-lt}
use native.Mathlib.Numerals.{add-one}

pub keep_long : (h x : List Float) → length h ≤ length x → take (length x - (length x - length h)) (drop (length x - length h) x) ≡ kept h x
unfolding kept
keep_long h x le =
    let e : length h + (length x - length h) ≡ length x = omega arith in
    take_rest x (length x - length h) ∙ sym (drop-append-add h x (length x - length h)) ∙ ap (λ (k : ℕ). drop k (h ++ x)) e

pub keep_short : (h x : List Float) → length x ≤ length h → drop (length x) h ++ x ≡ kept h x
unfolding kept
keep_short h x le = sym (drop-append-le (length x) h x le)

-- one more element moves down by n
pub moves : (h h₀ : List Float) (i n : ℕ) → take i h ≡ take i (drop n h₀) → drop i h ≡ drop i h₀ → i + n < length h₀ → length h ≡ length h₀
    → let h' = set h i (get_or h (i + n) nan) in
    (take (i + 1) h' ≡ take (i + 1) (drop n h₀)) × (drop (i + 1) h' ≡ drop (i + 1) h₀)
moves h h₀ i n done rest lt same =
    let v = get_or h (i + n) nan in
    let add : i + n ≡ n + i = omega arith in
    let read : v ≡ get_or (drop n h₀) i nan =
    sym (get_or-drop i h n nan) ∙ ap (λ (l : List Float). get_or l n nan) rest ∙ get_or-drop i h₀ n nan ∙ ap (λ (k : ℕ). get_or h₀ k nan) add
    ∙ sym (get_or-drop n h₀ i nan) in
    let more : take (i + 1) (set h i v) ≡ take (i + 1) (drop n h₀) =
    rw (add-one, take-suc-set h i v (omega arith), done, read) (sym (take-suc (drop n h₀) i nan (rw length-drop (omega arith)))) in
    (more, drop-set-lt (i + 1) h i v (omega arith) ∙ sym (drop-drop 1 i h) ∙ ap (drop 1) rest ∙ drop-drop 1 i h₀)
