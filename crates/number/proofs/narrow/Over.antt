-- The overflow of a narrowing: from halfway between the largest f32 and 2 ^ 128 on the answer is an infinity. Assumes nothing.
use Rattle.std.proofs.Common.{◌≡◌, ℕ, ◌+◌, ◌-◌, ◌*◌, ◌/◌, ◌%◌, ◌^◌, ◌<◌, ◌≤◌, Bool, cond, not, ◌&&◌, T, eqb, ◌⊎◌, sym, ap, ◌∙◌, inl, inr, arith, lit<}
use lib.Ieee.{binary32, binary64, of_fields, of_bits}
use lib.Ieee.Nearest.{closest}
use Rattle.number.specs.Narrow.{narrowed}
use Rattle.number.proofs.Pack.{split}
use Rattle.number.proofs.narrow.Fields.{digits_lt, at_normal, at_inf}
use Rattle.number.proofs.narrow.Shift.{half_even}
use Rattle.number.proofs.narrow.Word.{word}

carries : (D : ℕ) → 9007198986305536 ≤ D → D < 9007199254740992 → closest D (2 ^ 29) ≡ 16777216
carries D l u = sym (half_even D 268435456 (lit< tt)) ∙ ap (λ (x : ℕ). (D + 268435455 + x % 2) / 536870912) (whole D l u) ∙ up D l u
  where
    whole : (D : ℕ) → 9007198986305536 ≤ D → D < 9007199254740992 → D / 536870912 ≡ 16777215
    whole D l u = omega arith

    up : (D : ℕ) → 9007198986305536 ≤ D → D < 9007199254740992 → (D + 268435455 + 1) / 536870912 ≡ 16777216
    up D l u = omega arith

pub at_high : (s : Bool) (g d : ℕ) → g < 2048 → d < 4503599627370496 → 5183643170835005440 ≤ word g d → T (not (eqb g 2047 && not (eqb d 0))) → of_bits binary32 (cond s 2147483648 0 + 2139095040) ≡ narrowed (of_fields binary64 s g d)
at_high s g d G D h n = go (split g 1151)
  where
    field : (g d : ℕ) → 5183643170835005440 ≤ word g d → d < 4503599627370496 → g < 2048 → 897 ≤ g
    field g d h D G = omega arith

    last : (g d : ℕ) → 5183643170835005440 ≤ word g d → d < 4503599627370496 → g < 1151 → 9007198986305536 ≤ d + 4503599627370496
    last g d h D u = omega arith

    only : (g d : ℕ) → 5183643170835005440 ≤ word g d → d < 4503599627370496 → g < 1151 → (g - 897) * 8388608 + 16777216 ≡ 2139095040
    only g d h D u = omega arith

    go : (g < 1151) ⊎ (1151 ≤ g) → of_bits binary32 (cond s 2147483648 0 + 2139095040) ≡ narrowed (of_fields binary64 s g d)
    go (inl u) =
        ap (λ (x : ℕ). of_bits binary32 (cond s 2147483648 0 + x)) (sym (ap (λ (x : ℕ). (g - 897) * 8388608 + x) (carries (d + 4503599627370496) (last g d h D u) (digits_lt d D)) ∙ only g d h D u))
        ∙ at_normal s g d D (field g d h D G) u
    go (inr l) = at_inf s g d D l G n
