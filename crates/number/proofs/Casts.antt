-- Where a whole number is cast to a float: up to 2 ^ prec every one is a value of the format. Assumes nothing.
use Rattle.std.proofs.Common.{ℕ, ◌^◌, ◌≤◌, T, pos, le→leb}
use lib.Ieee.{Format, prec, in_float}

pub whole_is_float : (f : Format) (n : ℕ) → n ≤ 2 ^ prec f → T (in_float f (pos n))
unfolding in_float
whole_is_float f n h = le→leb n (2 ^ prec f) h
