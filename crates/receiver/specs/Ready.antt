-- What the functions inside the crate ask of a receiver and of lengths: no public contract cites it. Definitions only.
use Rattle.std.specs.Prelude.{ℕ, ◌%◌, ◌≤◌, ◌<◌, ◌≡◌, true}
use Rattle.fm.specs.State as fm-state
use Rattle.receiver.specs.declared.Receiver.{Receiver}

-- a receiver that is not refused, with its taps, its histories and a block of n bytes
pub record Ready (r : Receiver) (taps i q n : ℕ) : Type 0 where
  pub phase : r.phase < 10
  pub setting : fm-state.setting_met r.fm ≡ true
  pub state : fm-state.state_met r.fm ≡ true
  pub taps_long : taps ≡ 121
  pub i_long : i ≡ 120
  pub q_long : q ≡ 120
  pub whole : n % 2 ≡ 0
  pub short : n ≤ 8192
