-- What a call of the SSB demodulator works with: its histories, and that the places stay those that were lent. No public contract cites it. Definitions only.
use Rattle.std.specs.Prelude.{◌≡◌, length}
use Rattle.ssb.specs.Sideband.{Histories, histories}
use Rattle.ssb.specs.declared.lent.Lent.{Lent}

-- the histories of Q and I, as they stand
abbrev pub held : Lent → Histories
held l = histories l.q_history.now l.i_history.now

-- the same places as before, of the same lengths, sideband and taps unchanged
pub record Same (before after : Lent) : Type 0 where
  pub is_usb : after.is_usb ≡ before.is_usb
  pub taps : after.taps ≡ before.taps
  pub q_place : after.q_history.ghost_name ≡ before.q_history.ghost_name
  pub i_place : after.i_history.ghost_name ≡ before.i_history.ghost_name
  pub q_long : length after.q_history.now ≡ length before.q_history.now
  pub i_long : length after.i_history.now ≡ length before.i_history.now
