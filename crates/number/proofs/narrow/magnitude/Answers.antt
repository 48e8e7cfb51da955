-- `number::narrow::magnitude` meets its contract: `Added.antt` says what the sum and the difference are. Assumes nothing.
use Rattle.std.proofs.Common.{◌≡◌, ℕ, ◌+◌, ◌-◌, ◌*◌, ◌<◌, ◌≤◌, cond, not, ap, ◌∙◌, le_trans, le_of_eq, lt_of_le_of_lt, arith, lit<, lit≤}
use lib.Ieee.{Float, binary32, binary64, of_bits, to_bits, sub, add, fits, is_nan}
use lib.Ieee.Fits.{and_i}
use Rattle.number.proofs.narrow.Word.{word, field_lt, place_value}
use Rattle.number.proofs.Nan.{number_below}
use Rattle.number.proofs.narrow.Added.{Rounds, rounds, fits_32, is_number, pattern_le, bits_are}
use Rattle.number.proofs.narrow.Over.{at_high}
use Rattle.number.proofs.narrow.magnitude.Goals as goal

pub returns-then-m-ge5183643170835005440 : goal.returns-then-m-ge5183643170835005440
returns-then-m-ge5183643170835005440 c =
    (lit≤ tt, λ b. at_high b c.args.field c.args.digits c.requires.0 c.requires.1 c.if-m-ge5183643170835005440.true c.requires.2)

-- both patterns are below that of an infinity
place-le : (g e : ℕ) → g < 1151 → e ≡ g - 897 + 926 → e * 4503599627370496 ≤ 9218868437227405312
place-le g e h k = omega arith

word-le : (m : ℕ) → m < 5183643170835005440 → m ≤ 9218868437227405312
word-le m h = omega arith

pub float_from_bits-c : goal.float_from_bits-c
float_from_bits-c c =
    number_below binary64 (c.place.result * 4503599627370496) (place-le c.args.field c.place.result (field_lt c.args.field c.args.digits c.requires.0 c.if-m-ge5183643170835005440.false) c.place.ensures)

pub float_from_bits-t : goal.float_from_bits-t
float_from_bits-t c =
    number_below binary64 (word c.args.field c.args.digits) (word-le (word c.args.field c.args.digits) c.if-m-ge5183643170835005440.false)

-- the difference, and what is known of it
abbrev added : goal.After-row_known-1 → Float
added c =
    let a = c.args in
    let e = of_bits binary64 (c.place.result * 4503599627370496) in
    sub binary64 (add binary64 (of_bits binary64 (word a.field a.digits)) e) e

known : (c : goal.After-row_known-1) → Rounds c.args.field c.args.digits (added c)
known c =
    let g = c.args.field in
    let d = c.args.digits in
    let m = c.if-m-ge5183643170835005440.false in
    let e = c.place.result in
    rounds g d (of_bits binary64 (e * 4503599627370496)) c.requires.0 c.requires.1 m (place_value g e (field_lt g d c.requires.0 m) c.place.ensures)

pub float_to_float-result : goal.float_to_float-result
float_to_float-result c = and_i (fits binary32 (added c)) (not (is_nan (added c))) (fits_32 _ _ (added c) (known c)) (is_number _ _ (added c) (known c))

pub float_to_bits-result : goal.float_to_bits-result
float_to_bits-result c = is_number _ _ (added c) (known c)

bits-le : (c : goal.After-row_known-1) → to_bits binary32 (added c) ≤ 2139095040
bits-le c = le_trans (le_of_eq (bits_are _ _ (added c) (known c))) (pattern_le _ _ (added c) (known c))

pub overflow_cast-result : goal.overflow_cast-result
overflow_cast-result c = record { fits = lt_of_le_of_lt (bits-le c) (lit< tt) }

pub returns : goal.returns
returns c = (bits-le c, λ b. ap (λ (x : ℕ). of_bits binary32 (cond b 2147483648 0 + x)) (bits_are _ _ (added c) (known c)) ∙ (known c).narrows b)
