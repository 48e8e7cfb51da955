-- The square root at each kind of bit pattern of an f32. Assumes nothing.
use mathlib.Core.Path.{◌≡◌, refl, sym, ap, ◌∙◌, subst}
use Prim.Native.Nat.{ℕ, zero, suc, ◌+◌, ◌-◌, ◌*◌, ◌/◌, ◌%◌, ◌^◌, ◌≤◌, ◌<◌}
use native.Mathlib.Nat.{le_of_eq, lt_of_lt_of_le, not-le_of_lt, mul_assoc, mul-pos, mod-eq_of_lt, mul-one}
use native.Mathlib.Omega.{arith}
use mathlib.Core.Bool.{Bool, true, false, cond}
use lib.Dec.{T, leb, eqb, leb→le, le→leb, eqb→eq, not_T}
use lib.Pow.{pow-add, pow_pos}
use lib.Ieee.{nan, inf, binary32, odd, of_fields, of_bits}
use lib.Ieee.Bits.{is_true, is_false, cond_no}
use lib.Ieee.Exact.{odd_sign}
use Rattle.root.specs.Root.{rooted, nearest_root}
use Rattle.root.proofs.Value.{rooted_val, rooted_below}

-- ---- what the fields stand for
of_bits_is : (b : ℕ) → of_bits binary32 b ≡ of_fields binary32 (leb 2147483648 b) (b % 2147483648 / 8388608) (b % 8388608)
unfolding of_bits
of_bits_is b = refl

plus : (b : ℕ) → b < 2147483648 → of_bits binary32 b ≡ of_fields binary32 false (b / 8388608) (b % 8388608)
plus b u =
    of_bits_is b
    ∙ ap (λ (s : Bool). of_fields binary32 s (b % 2147483648 / 8388608) (b % 8388608)) (is_false (leb 2147483648 b) (not_T (leb 2147483648 b) (λ (t : T (leb 2147483648 b)). not-le_of_lt u (leb→le 2147483648 b t))))
    ∙ ap (λ (x : ℕ). of_fields binary32 false (x / 8388608) (b % 8388608)) (mod-eq_of_lt u)

minus : (b : ℕ) → 2147483648 ≤ b → of_bits binary32 b ≡ of_fields binary32 true (b % 2147483648 / 8388608) (b % 8388608)
minus b l = of_bits_is b ∙ ap (λ (s : Bool). of_fields binary32 s (b % 2147483648 / 8388608) (b % 8388608)) (is_true (leb 2147483648 b) (le→leb 2147483648 b l))

low_field : (s : Bool) (t : ℕ) → of_fields binary32 s 0 t ≡ odd 24 s t 0 149
unfolding of_fields
low_field s t = refl

differ : (x : ℕ) → suc x < 255 → suc x ≡ 255 → ⊥
differ x h e = omega arith

mid_field : (s : Bool) (x t : ℕ) → suc x < 255 → of_fields binary32 s (suc x) t ≡ odd 24 s (8388608 + t) x 149
unfolding of_fields
mid_field s x t h = cond_no (eqb (suc x) 255) (cond (eqb t 0) (inf s) nan) (odd 24 s (8388608 + t) x 149) (not_T (eqb (suc x) 255) (λ (u : T (eqb (suc x) 255)). differ x h (eqb→eq (suc x) 255 u)))

-- ---- positive and finite
small : (b : ℕ) → b < 2139095040 → b < 2147483648
small b h = omega arith

rest : (b : ℕ) → b / 8388608 ≡ 0 → b % 8388608 ≡ b
rest b h = omega arith

pub at_subnormal : (b : ℕ) → 0 < b → b < 2139095040 → b / 8388608 ≡ 0 → rooted binary32 (of_bits binary32 b) ≡ nearest_root binary32 (b % 8388608 * 2 ^ (0 + 149))
at_subnormal b p u z =
    let t = b % 8388608 in
    ap (rooted binary32) (plus b (small b u) ∙ ap (λ (x : ℕ). of_fields binary32 false x t) z ∙ low_field false t)
    ∙ rooted_val binary32 (odd 24 false t 0 149) (t * 2 ^ 0) (lt_of_lt_of_le (subst (λ (x : ℕ). 0 < x) (sym (rest b z)) p) (le_of_eq (sym (mul-one t)))) (odd_sign 24 false t 0 149)
    ∙ ap (λ (x : ℕ). nearest_root binary32 (x * 2 ^ 149)) (mul-one t)

field : (b : ℕ) → (b / 8388608 ≡ 0 → ⊥) → suc (b / 8388608 - 1) ≡ b / 8388608
field b h = omega arith

field_lt : (b : ℕ) → b < 2139095040 → (b / 8388608 ≡ 0 → ⊥) → suc (b / 8388608 - 1) < 255
field_lt b u h = omega arith

turned : (t : ℕ) → 8388608 + t ≡ t + 8388608
turned t = omega arith

pub at_normal : (b : ℕ) → b < 2139095040 → (b / 8388608 ≡ 0 → ⊥) → rooted binary32 (of_bits binary32 b) ≡ nearest_root binary32 ((b % 8388608 + 8388608) * 2 ^ (b / 8388608 - 1 + 149))
at_normal b u n =
    let t = b % 8388608 in
    let x = b / 8388608 - 1 in
    ap (rooted binary32) (plus b (small b u) ∙ ap (λ (y : ℕ). of_fields binary32 false y t) (sym (field b n)) ∙ mid_field false x t (field_lt b u n))
    ∙ rooted_val binary32 (odd 24 false (8388608 + t) x 149) ((8388608 + t) * 2 ^ x) (mul-pos (lead t) (pow_pos x)) (odd_sign 24 false (8388608 + t) x 149)
    ∙ ap (nearest_root binary32) (mul_assoc (8388608 + t) (2 ^ x) (2 ^ 149) ∙ ap (λ (y : ℕ). (8388608 + t) * y) (sym (pow-add 2 x 149)) ∙ ap (λ (y : ℕ). y * 2 ^ (x + 149)) (turned t))
  where
    lead : (t : ℕ) → 0 < 8388608 + t
    lead t = omega arith

-- ---- below zero
lead : (t : ℕ) → 0 < 8388608 + t
lead t = omega arith

neg_field : (x t : ℕ) → (x ≡ 0 → 0 < t) → rooted binary32 (of_fields binary32 true x t) ≡ nan
unfolding of_fields rooted
neg_field zero t p = rooted_below binary32 (odd 24 true t 0 149) (t * 2 ^ 0) (2 ^ 149) (lt_of_lt_of_le (p refl) (le_of_eq (sym (mul-one t)))) (odd_sign 24 true t 0 149)
neg_field (suc x) t p = go (eqb (suc x) 255) (eqb t 0)
  where
    go : (a b : Bool) → rooted binary32 (cond a (cond b (inf true) nan) (odd 24 true (8388608 + t) x 149)) ≡ nan
    go true true = refl
    go true false = refl
    go false b = rooted_below binary32 (odd 24 true (8388608 + t) x 149) ((8388608 + t) * 2 ^ x) (2 ^ 149) (mul-pos (lead t) (pow_pos x)) (odd_sign 24 true (8388608 + t) x 149)

pub at_negative : (b : ℕ) → 2147483648 < b → b < 4294967296 → rooted binary32 (of_bits binary32 b) ≡ nan
at_negative b l u = ap (rooted binary32) (minus b (below b l)) ∙ neg_field (b % 2147483648 / 8388608) (b % 8388608) (digits b l u)
  where
    below : (b : ℕ) → 2147483648 < b → 2147483648 ≤ b
    below b l = omega arith

    digits : (b : ℕ) → 2147483648 < b → b < 4294967296 → b % 2147483648 / 8388608 ≡ 0 → 0 < b % 8388608
    digits b l u z = omega arith

-- ---- the zeros, and the infinity: each is its own root
pub at_minus_zero : rooted binary32 (of_bits binary32 2147483648) ≡ of_bits binary32 2147483648
unfolding of_bits rooted
at_minus_zero = refl

pub at_zero : rooted binary32 (of_bits binary32 0) ≡ of_bits binary32 0
unfolding of_bits rooted
at_zero = refl

top_field : (t : ℕ) → rooted binary32 (of_fields binary32 false 255 t) ≡ of_fields binary32 false 255 t
unfolding of_fields rooted
top_field t = go (eqb t 0)
  where
    go : (b : Bool) → rooted binary32 (cond b (inf false) nan) ≡ cond b (inf false) nan
    go true = refl
    go false = refl

the_field : (b : ℕ) → 2139095040 ≤ b → b < 2147483648 → b / 8388608 ≡ 255
the_field b l u = omega arith

pub at_top : (b : ℕ) → 2139095040 ≤ b → b < 2147483648 → rooted binary32 (of_bits binary32 b) ≡ of_bits binary32 b
at_top b l u =
    let e : of_bits binary32 b ≡ of_fields binary32 false 255 (b % 8388608) = plus b u ∙ ap (λ (x : ℕ). of_fields binary32 false x (b % 8388608)) (the_field b l u) in
    ap (rooted binary32) e ∙ top_field (b % 8388608) ∙ sym e
