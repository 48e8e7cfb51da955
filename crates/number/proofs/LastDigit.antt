-- The last binary digit of a value's pattern: of q * 2 ^ k smallest values it is the last digit of q, where q has all
-- the digits of the format or k is 0. Assumes nothing.
use Rattle.std.proofs.Common.{◌≡◌, ℕ, suc, ◌+◌, ◌-◌, ◌*◌, ◌/◌, ◌%◌, ◌^◌, ◌≤◌, Bool, true, false, cond, ◌⊎◌, refl, ap, ◌∙◌, add_assoc, mul_left_comm, arith}
use lib.Ieee.{Float, Format, binary32, binary64, prec, low, size, hid, ones, top, to_bits}
use lib.Ieee.Fits.{two}
use lib.Ieee.Exact.{HasValue}
use Rattle.number.proofs.Pack.{pattern, to_bits_val}

-- ---- the fields in front of the digits are even
abbrev half : Format → ℕ
half f = 2 ^ (prec f - 2)

hid_even : (f : Format) → hid f ≡ 2 * half f
hid_even binary32 = refl
hid_even binary64 = refl

top_even : (f : Format) → top f ≡ 2 * (half f * suc (ones f))
top_even binary32 = refl
top_even binary64 = refl

sign_even : (f : Format) (t : Bool) → (x : ℕ) × (cond t (top f) 0 ≡ 2 * x)
sign_even f true = (half f * suc (ones f), top_even f)
sign_even f false = (0, refl)

pub parity : (f : Format) (t : Bool) (y : Float) (q k : ℕ) → HasValue y t (q * 2 ^ k) (2 ^ low f) → q ≤ 2 ^ prec f
    → (k ≡ 0) ⊎ (hid f ≤ q) → to_bits f y % 2 ≡ q % 2
parity f t y q k H a l =
    let n = q * 2 ^ k in
    let d = size n - prec f in
    let sign = cond t (top f) 0 in
    let S = sign_even f t in
    let bits : to_bits f y ≡ sign + (k * hid f + q) =
    to_bits_val f t y n H
    ∙ add_assoc sign (d * hid f) (n / 2 ^ d)
    ∙ ap (λ (x : ℕ). sign + x) (pattern (prec f) q k (two f) a l) in
    let field : k * hid f ≡ 2 * (k * half f) = ap (λ (x : ℕ). k * x) (hid_even f) ∙ mul_left_comm k 2 (half f) in
    last (to_bits f y) sign (k * hid f) S.0 (k * half f) q bits S.1 field
  where
    last : (b s h x y q : ℕ) → b ≡ s + (h + q) → s ≡ 2 * x → h ≡ 2 * y → b % 2 ≡ q % 2
    last b s h x y q e i j = omega arith
