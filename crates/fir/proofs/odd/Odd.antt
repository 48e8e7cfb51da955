-- The sum over the odd taps: a turn, its end, what it looks at, and the lanes that carry it. Assumes nothing.
use mathlib.Core.Path.{◌≡◌, refl, sym, ap, ◌∙◌}
use mathlib.Core.List.{List, [], ◌∷◌, ◌++◌}
use Prim.Native.Nat.{ℕ, suc, ◌+◌, ◌*◌, ◌≤◌, ◌<◌}
use native.Mathlib.Nat.{mul-one}
use native.Mathlib.Numerals.{add-one}
use native.Mathlib.Omega.{arith}
use lib.ListN.{length, get_or, take, drop, length-drop, replicate, get_or-replicate}
use lib.Seq.{drop-cons, get_or-drop, length-take-le, drop-append-le}
use lib.Ieee.{Float, nan, binary32, add, mul}
use Rattle.stage.specs.Floats.{plus_zero}
use Rattle.fir.specs.Filter.{output_at}
use Rattle.fir.specs.Dot.{odd_from, odd_taps}
use Rattle.fir.specs.Written.{odd_at}
use Rattle.fir.specs.Planes.{Turned, OddSummed}
use Rattle.std.proofs.lemmas.List.{take-append-le}
use Rattle.fir.proofs.gather.Gathered.{window_of}

-- one turn of the sum
odd_step : (acc : Float) (xs ts : List Float) (i : ℕ) → i + 1 < length xs → i + 1 < length ts
    → odd_from acc (drop i xs) (drop i ts)
    ≡ odd_from (add binary32 acc (mul binary32 (get_or xs (i + 1) nan) (get_or ts (i + 1) nan))) (drop (i + 2) xs) (drop (i + 2) ts)
unfolding odd_from
odd_step acc xs ts i hx ht =
    let one : i + 1 ≡ suc i = add-one i in
    let two : i + 2 ≡ suc (suc i) = omega arith in
    let x₀ : i < length xs = omega arith in
    let t₀ : i < length ts = omega arith in
    let x₁ : suc i < length xs = omega arith in
    let t₁ : suc i < length ts = omega arith in
    rw (one, two, drop-cons xs i nan x₀, drop-cons ts i nan t₀, drop-cons xs (suc i) nan x₁, drop-cons ts (suc i) nan t₁)

-- at most one tap is left
odd_rest : (acc : Float) (xs ts : List Float) → length ts ≤ 1 → odd_from acc xs ts ≡ acc
unfolding odd_from
odd_rest acc xs [] h = refl
odd_rest acc xs (t ∷ []) h = refl
odd_rest acc xs (t ∷ t' ∷ ts) h = absurd (omega arith)

-- samples behind the last tap do not count
odd_window : (acc : Float) (xs ts : List Float) → odd_from acc (take (length ts) xs) ts ≡ odd_from acc xs ts
unfolding odd_from
odd_window acc xs [] = refl
odd_window acc xs (t ∷ []) = refl
odd_window acc [] (t ∷ t' ∷ ts) = refl
odd_window acc (x ∷ []) (t ∷ t' ∷ ts) = refl
odd_window acc (x ∷ x' ∷ xs) (t ∷ t' ∷ ts) = odd_window (add binary32 acc (mul binary32 x' t')) xs ts

-- so that the sum from a place on is the filter's output there
pub odd_output : (ts xs : List Float) (at : ℕ) → odd_at ts xs at ≡ output_at (odd_taps ts) xs at
unfolding odd_at output_at
odd_output ts xs at = sym (odd_window plus_zero (drop at xs) ts)

-- and so it is where the window lies in a part of the samples that is followed by others
pub odd_part : (ts ext rest : List Float) (at n b : ℕ) → b + length ts ≤ n → at + n ≤ length ext
    → odd_at ts (take n (drop at ext) ++ rest) b ≡ odd_at ts ext (at + b)
unfolding odd_at
odd_part ts ext rest at n b fit has =
    let part = take n (drop at ext) in
    let long : length part ≡ n = length-take-le n (drop at ext) (rw length-drop (omega arith)) in
    let left : b + length (drop b part) ≡ n = rw length-drop (omega arith) in
    let whole : take (length ts) (drop b (part ++ rest)) ≡ take (length ts) (drop b part) =
    ap (take (length ts)) (drop-append-le b part rest (omega arith)) ∙ take-append-le (length ts) (drop b part) rest (omega arith) in
    sym (odd_window plus_zero (drop b (part ++ rest)) ts)
    ∙ ap (λ (w : List Float). odd_from plus_zero w ts) (whole ∙ window_of ext at n b (length ts) fit)
    ∙ odd_window plus_zero (drop (at + b) ext) ts

-- ---- the lanes

abbrev pub OddLanes : List Float → List Float → ℕ → List Float → ℕ → Type 0
OddLanes ts x o acc i =
    (l : ℕ) → l < 32 → odd_from (get_or acc l nan) (drop i (drop (o + l) x)) (drop i ts) ≡ odd_at ts x (o + l)

pub odd_start : (ts x : List Float) (o : ℕ) → OddLanes ts x o (replicate 32 plus_zero) 0
unfolding odd_at
odd_start ts x o l hl = ap (λ (a : Float). odd_from a (drop (o + l) x) ts) (get_or-replicate 32 l plus_zero nan hl)

pub odd_turn : (ts x : List Float) (o i : ℕ) (acc acc' : List Float) → o + 32 + length ts ≤ length x → i + 1 < length ts
    → OddLanes ts x o acc i → Turned 32 acc x (o + (i + 1)) 1 (get_or ts (i + 1) nan) acc' → OddLanes ts x o acc' (i + 2)
odd_turn ts x o i acc acc' fit lt h t l hl =
    let long : i + 1 < length (drop (o + l) x) = rw length-drop (omega arith) in
    let e : o + (i + 1) + l * 1 ≡ o + l + (i + 1) = omega (arith, mul-one l) in
    let sample : get_or x (o + (i + 1) + l * 1) nan ≡ get_or (drop (o + l) x) (i + 1) nan = rw e (sym (get_or-drop (o + l) x (i + 1) nan)) in
    rw (t l hl, sample) (sym (odd_step (get_or acc l nan) (drop (o + l) x) ts i long lt) ∙ h l hl)

pub odd_done : (ts x : List Float) (o i : ℕ) (acc : List Float) → length ts ≤ i + 1 → OddLanes ts x o acc i → OddSummed ts x o acc
odd_done ts x o i acc past h l hl =
    sym (odd_rest (get_or acc l nan) (drop i (drop (o + l) x)) (drop i ts) (rw length-drop (omega arith))) ∙ h l hl
