-- A hang time below 16,777,216 is still below it once it is cut to a whole number: so `new` stores what every call takes. Assumes nothing.
use Prim.Native.Nat.{◌*◌, ◌/◌, ◌<◌}
use native.Mathlib.Nat.{mul-one, div-lt_iff_lt-mul}
use native.Mathlib.Omega.{arith}
use mathlib.Core.Path.{◌≡◌, sym}
use mathlib.Core.Bool.{true, false, true≢false}
use lib.Ieee.{Float, nan, inf, fin, binary32, of_bits, lt, to_unsigned, up, down}
use lib.Ieee.Fits.{down_pos}
use borrow.Author.Tests.{ltb-true}
use Rattle.audio_agc.specs.State.{LONGEST_HANG}

pub hang_cut : (q : Float) → lt q (of_bits binary32 0x4b80_0000) ≡ true → to_unsigned 64 q < LONGEST_HANG
unfolding lt of_bits to_unsigned
hang_cut nan h = absurd (true≢false (sym h))
hang_cut (inf true) h = omega arith
hang_cut (inf false) h = absurd (true≢false (sym h))
hang_cut (fin true m e) h = omega arith
hang_cut (fin false m e) h =
    let l : m * up e * 1 < LONGEST_HANG * down e = ltb-true (m * up e * 1) (LONGEST_HANG * down e) h in
    let d : m * up e / down e < LONGEST_HANG = (div-lt_iff_lt-mul (down_pos e)).1 (rw (mul-one (m * up e)) at l) in
    omega arith
