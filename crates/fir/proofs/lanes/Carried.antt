-- The lanes' sums so far, each carried on over what is left of its window. Assumes nothing.
use mathlib.Core.Path.{◌≡◌, sym, ap, ◌∙◌}
use mathlib.Core.List.{List}
use Prim.Native.Nat.{ℕ, ◌+◌, ◌*◌, ◌≤◌, ◌<◌}
use native.Mathlib.Nat.{add-mul, mul-one}
use native.Mathlib.Omega.{arith}
use lib.ListN.{length, get_or, drop, length-drop, replicate, get_or-replicate}
use lib.Seq.{get_or-drop}
use lib.Ieee.{Float, nan}
use Rattle.stage.specs.Floats.{plus_zero}
use Rattle.fir.specs.Dot.{dot_from}
use Rattle.fir.specs.Written.{dot_at}
use Rattle.fir.specs.Planes.{Upto, Turned}
use Rattle.fir.proofs.dot.Products.{dot_step, dot_done}

-- n lanes, the first of output q: lane l's sum so far, carried on over what is left, is output q + l, where its window lies in x
abbrev pub Lanes : ℕ → List Float → List Float → ℕ → ℕ → List Float → ℕ → Type 0
Lanes n ts x f q acc i =
    (l : ℕ) → l < n → (q + l) * f + length ts ≤ length x
    → dot_from (get_or acc l nan) (drop i (drop ((q + l) * f) x)) (drop i ts) ≡ dot_at ts x ((q + l) * f)

pub lanes_start : (n : ℕ) (ts x : List Float) (f q : ℕ) → Lanes n ts x f q (replicate n plus_zero) 0
unfolding dot_at
lanes_start n ts x f q l hl fit = ap (λ (a : Float). dot_from a (drop ((q + l) * f) x) ts) (get_or-replicate n l plus_zero nan hl)

-- one turn, where lane l finds its sample `step` places behind that of the lane before it
pub lanes_turn : (n : ℕ) (z ts x : List Float) (f q i place step : ℕ) → i < length ts
    → ((l : ℕ) → l < n → (q + l) * f + length ts ≤ length x → get_or z (place + l * step) nan ≡ get_or (drop ((q + l) * f) x) i nan)
    → (acc acc' : List Float) → Lanes n ts x f q acc i → Turned n acc z place step (get_or ts i nan) acc' → Lanes n ts x f q acc' (i + 1)
lanes_turn n z ts x f q i place step lt sample acc acc' h t l hl fit =
    let long : i < length (drop ((q + l) * f) x) = rw length-drop (omega arith) in
    rw (t l hl, sample l hl fit) (sym (dot_step (get_or acc l nan) (drop ((q + l) * f) x) ts i long lt) ∙ h l hl fit)

-- the samples lie in planes, side by side
pub planes_turn : (z ts x : List Float) (f q p k i : ℕ) → Upto z x f (f * 128) → p < f → k + 32 ≤ 128
    → k * f + p ≡ q * f + i → i < length ts → (acc acc' : List Float) → Lanes 32 ts x f q acc i
    → Turned 32 acc z (p * 128 + k) 1 (get_or ts i nan) acc' → Lanes 32 ts x f q acc' (i + 1)
planes_turn z ts x f q p k i held below inside is lt =
    lanes_turn 32 z ts x f q i (p * 128 + k) 1 lt
    (λ l hl fit.
    let place : p * 128 + k + l * 1 ≡ p * 128 + (k + l) = omega (arith, mul-one l) in
    let same : (k + l) * f + p ≡ (q + l) * f + i = omega (arith, add-mul k l f, add-mul q l f) in
    rw (place, get_or-drop ((q + l) * f) x i nan, ← same) (held p (k + l) below (omega arith) (omega arith) (omega arith)))

-- the samples lie as they came, `f` apart
pub plain_turn : (ts x : List Float) (f i : ℕ) → i < length ts → (acc acc' : List Float) → Lanes 4 ts x f 0 acc i
    → Turned 4 acc x i f (get_or ts i nan) acc' → Lanes 4 ts x f 0 acc' (i + 1)
plain_turn ts x f i lt =
    lanes_turn 4 x ts x f 0 i i f lt
    (λ l hl fit.
    let place : i + l * f ≡ l * f + i = omega arith in
    let first : 0 + l ≡ l = omega arith in
    rw (place, first, get_or-drop (l * f) x i nan))

-- past the last tap
pub lanes_done : (n : ℕ) (ts x : List Float) (f q : ℕ) (acc : List Float) (i : ℕ) → length ts ≤ i → Lanes n ts x f q acc i
    → (l : ℕ) → l < n → (q + l) * f + length ts ≤ length x → get_or acc l nan ≡ dot_at ts x ((q + l) * f)
lanes_done n ts x f q acc i past h l hl fit = sym (dot_done (get_or acc l nan) (drop i (drop ((q + l) * f) x)) ts i past) ∙ h l hl fit
