-- I and Q of two streams of pairs that differ at some positions differ at no others. Assumes nothing.
use Prim.Native.Nat.{ℕ}
use mathlib.Core.Path.{◌≡◌, refl, sym, ap, ◌∙◌}
use mathlib.Core.List.{List, [], ◌∷◌, map}
use lib.ListN.{length-map}
use Rattle.std.specs.List.{take-map, drop-map}
use Rattle.stage.specs.Layout.{firsts, seconds}
use Rattle.fir.specs.Damage.{DifferWithin}

module _ {A B : Type 0} (f : A → B) where
  differ_map : (a b : ℕ) (x y : List A) → DifferWithin a b x y → DifferWithin a b (map f x) (map f y)
  differ_map a b x y d =
      record {
        long = length-map x f ∙ d.long ∙ sym (length-map y f);
        before = take-map f a x ∙ ap (map f) d.before ∙ sym (take-map f a y);
        behind = drop-map f b x ∙ ap (map f) d.behind ∙ sym (drop-map f b y);
      }

module _ {X : Type 0} where
  firsts_map : (ps : List (X × X)) → firsts ps ≡ map (λ p. p.0) ps
  firsts_map [] = refl
  firsts_map (p ∷ ps) = ap {B = List X} (λ r. p.0 ∷ r) (firsts_map ps)

  seconds_map : (ps : List (X × X)) → seconds ps ≡ map (λ p. p.1) ps
  seconds_map [] = refl
  seconds_map (p ∷ ps) = ap {B = List X} (λ r. p.1 ∷ r) (seconds_map ps)

  pub differ_firsts : (a b : ℕ) (x y : List (X × X)) → DifferWithin a b x y → DifferWithin a b (firsts x) (firsts y)
  differ_firsts a b x y d = rw (firsts_map x, firsts_map y) (differ_map (λ p. p.0) a b x y d)

  pub differ_seconds : (a b : ℕ) (x y : List (X × X)) → DifferWithin a b x y → DifferWithin a b (seconds x) (seconds y)
  differ_seconds a b x y d = rw (seconds_map x, seconds_map y) (differ_map (λ p. p.1) a b x y d)
