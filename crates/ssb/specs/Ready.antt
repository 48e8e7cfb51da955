-- What the functions inside the crate ask of lengths, and of a closure: no public contract cites it. Definitions only.
use Rattle.std.specs.Prelude.{ℕ, ◌/◌, ◌%◌, ◌≤◌, ◌≡◌, Bool, Float}
use Rattle.stage.specs.Length.{LONGEST}
use Rattle.ssb.specs.Sideband.{sideband}

-- taps and the histories of Q and I
pub record Ready (taps q i : ℕ) : Type 0 where
  pub sixty_five : taps ≡ 65
  pub sixty_four : q ≡ 64
  pub thirty_two : i ≡ 32

-- a block of n elements, whose outputs have room
pub record Block (n room : ℕ) : Type 0 where
  pub whole : n % 2 ≡ 0
  pub short : n ≤ LONGEST
  pub roomy : n / 2 ≤ room

-- what a closure makes of an I and its sum is the output of this sideband
abbrev pub Makes : (Float → Float → Float → Type 0) → Bool → Type 0
Makes post usb = (i sum r : Float) → post i sum r → r ≡ sideband usb i sum
