-- The whole part out of the range that the machine's cast takes, from -1 to 2 ^ 64: 0 below it, the largest number above it, 0 for NaN. Assumes nothing.
use Rattle.std.proofs.Common.{◌≡◌, ℕ, ◌+◌, ◌*◌, ◌/◌, ◌^◌, ◌≤◌, min, Bool, true, false, not, T, pos, sym, refl, ap, subst, true≢false, le_trans, lt_of_lt_of_le, le-add_right, lt_irrefl, zero-lt-suc, mul-pos, le-div_iff_mul-le, mul-one, le-add_left, arith, nltb→le, pow_pos}
use mathlib.Core.Bool.{false≢true}
use lib.Ieee.{Float, nan, inf, fin, up, down, lt, ne, to_unsigned}
use lib.Ieee.Fits.{down_pos}

failed : {b : Bool} → b ≡ false → T (not b)
failed e = subst (λ (b : Bool). T (not b)) (sym e) tt

pub whole_below : (x : Float) → lt x (fin false 1 (pos 64)) ≡ true → lt (fin true 1 (pos 0)) x ≡ false → 0 ≡ to_unsigned 64 x
unfolding lt to_unsigned
whole_below nan h k = refl
whole_below (inf true) h k = refl
whole_below (inf false) h k = absurd (false≢true h)
whole_below (fin true m e) h k = refl
whole_below (fin false m e) h k =
    absurd (lt_irrefl 0 (lt_of_lt_of_le (mul-pos {m = 1 * 1} {n = down e} (zero-lt-suc 0) (down_pos e)) (le_trans (le-add_right (1 * 1 * down e) (m * up e * 1)) (nltb→le 0 (1 * 1 * down e + m * up e * 1) (failed k)))))

pub whole_nan : (x : Float) → x ≡ nan → 0 ≡ to_unsigned 64 x
unfolding to_unsigned
whole_nan x e = ap (to_unsigned 64) (sym e)

capped : (a : ℕ) → 18446744073709551616 ≤ a → 18446744073709551615 ≡ min a 18446744073709551615
capped a h = omega arith

pub whole_above : (x : Float) → lt x (fin false 1 (pos 64)) ≡ false → ne x x ≡ false → 18446744073709551615 ≡ to_unsigned 64 x
unfolding lt ne to_unsigned
whole_above nan h k = absurd (true≢false k)
whole_above (inf true) h k = absurd (true≢false h)
whole_above (inf false) h k = refl
whole_above (fin true m e) h k =
    absurd (lt_irrefl 0 (lt_of_lt_of_le (mul-pos (pow_pos 64) (down_pos e)) (le_trans (le-add_left (1 * 2 ^ 64 * down e) (m * up e * 1)) (nltb→le 0 (m * up e * 1 + 1 * 2 ^ 64 * down e) (failed h)))))
whole_above (fin false m e) h k =
    capped (m * up e / down e) ((le-div_iff_mul-le (down_pos e)).1 (subst (λ (x : ℕ). 18446744073709551616 * down e ≤ x) (mul-one (m * up e)) (nltb→le (m * up e * 1) (1 * 2 ^ 64 * down e) (failed h))))
