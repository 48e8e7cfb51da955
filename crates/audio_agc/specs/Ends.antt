-- Worked values at the ends of each rule on the audio gain control, by computation: settings, hang time, state and length. Assumes nothing.
use Rattle.std.specs.Prelude.{ℕ, ◌≡◌, refl, false, List, [], ◌∷◌, length, Float}
use Rattle.std.specs.Float.{nan, inf}
use Rattle.std.specs.Float.Ieee.{of_bits, mul, div, lt, le, to_unsigned}
use Rattle.stage.specs.Floats.{plus_zero, one}
use Rattle.stage.specs.Named.{single, minus_zero, half, above_one}
use Rattle.audio_agc.specs.declared.AudioAgc.{AudioAgc}
use Rattle.audio_agc.specs.declared.AudioAgcDone.{AudioAgcDone}
use Rattle.audio_agc.specs.State.{answered}
use Rattle.audio_agc.specs.Made.{fresh, zeros, made}
use Rattle.audio_agc.specs.Process.{process}

abbrev thousand : Float
thousand = single 0x447a_0000

abbrev limit : Float
limit = single 0x4b80_0000

-- made with these levels, and a hang time of 1 ms at 1000 Hz
abbrev levels : Float → Float → Float → Float → AudioAgcDone
levels target attack decay floor = made target attack decay one thousand floor

-- made with this hang time at this rate
abbrev hang : Float → Float → AudioAgcDone
hang time rate = made half half half time rate half

abbrev refused : AudioAgcDone
refused = answered 1 zeros 0

-- ---- what `new` takes and refuses

-- the field return: with a floor of 0, silence divides 0 by 0, and the Rust's gain stays NaN from then on
pub floor_of_zero_is_refused : (levels half half half plus_zero ≡ refused) × (levels half half half minus_zero ≡ refused)
unfolding mul div lt le of_bits
floor_of_zero_is_refused = (refl, refl)

-- the least float above 0 is taken as target and as floor; 0, -0.0 and 1 for attack and decay
pub levels_taken :
    (levels (single 1) plus_zero one (single 1) ≡ answered 0 (fresh (single 1) plus_zero one one (single 1)) 0)
    × (levels one one minus_zero one ≡ answered 0 (fresh one one minus_zero one one) 0)
unfolding mul div lt le of_bits
levels_taken = (refl, refl)

-- no target of 0, of either sign; nothing above 1; no infinity and no NaN
pub levels_refused :
    (levels plus_zero half half half ≡ refused)
    × (levels minus_zero half half half ≡ refused)
    × (levels (inf false) half half half ≡ refused)
    × (levels half above_one half half ≡ refused)
    × (levels half half nan half ≡ refused)
    × (levels half half half nan ≡ refused)
unfolding mul div lt le of_bits
levels_refused = (refl, refl, refl, refl, refl, refl)

-- a hang time of 1.5 samples is cut to 1, and -0.0 is none; 16,777,215 is the longest
pub hangs_taken :
    ((hang (single 0x3fc0_0000) thousand).state.hang_time_samples ≡ 1)
    × (hang minus_zero thousand ≡ answered 0 (fresh half half half minus_zero half) 0)
    × ((hang thousand (single 0x4b7f_ffff)).state.hang_time_samples ≡ 16_777_215)
unfolding mul div lt le of_bits to_unsigned
hangs_taken = (refl, refl, refl)

-- 16,777,216 itself is refused, and so is a product that overflows; a time below 0; a rate of 0, of either sign; NaN
pub hangs_refused :
    (hang thousand limit ≡ refused)
    × (hang (single 0x7e96_7699) (single 0x7e96_7699) ≡ refused)
    × (hang (single 0x8000_0001) thousand ≡ refused)
    × (hang one plus_zero ≡ refused)
    × (hang one minus_zero ≡ refused)
    × (hang nan thousand ≡ refused)
unfolding mul div lt le of_bits
hangs_refused = (refl, refl, refl, refl, refl, refl)

-- ---- what a call takes and refuses

-- target, floor, hang time, hang counter, gain and envelope of a state whose attack and decay are 0.5
abbrev state : Float → Float → ℕ → ℕ → Float → Float → AudioAgc
state target floor time counter gain envelope =
    record {
      gain = gain;
      target = target;
      attack = half;
      decay = half;
      min_magnitude = floor;
      hang_time_samples = time;
      hang_counter = counter;
      envelope = envelope;
    }

-- the number of a call, and that what is handed in comes back
abbrev Refuses : ℕ → AudioAgc → Type 0
Refuses number s = process s (one ∷ []) ≡ record { refusal = number; state = s; struck = 0; left = one ∷ [] }

-- a floor of 0 inside a state, and a stored hang time of 16,777,216: SETTING, also where the gain is not finite
pub setting_in_a_state : Refuses 1 (state half plus_zero 2 0 one plus_zero) × Refuses 1 (state half half 16_777_216 0 nan plus_zero)
unfolding lt le of_bits
setting_in_a_state = (refl, refl)

-- a gain or an envelope that is not finite, a counter above its hang time: STATE
pub stored_badly :
    Refuses 2 (state half half 2 0 nan plus_zero)
    × Refuses 2 (state half half 2 0 one (inf false))
    × Refuses 2 (state half half 2 3 one plus_zero)
unfolding lt le of_bits
stored_badly = (refl, refl, refl)

-- the longest hang time, a counter at its hang time, a negative gain and no sample: taken
pub taken_empty : (process (state half half 16_777_215 16_777_215 (single 0xbf80_0000) plus_zero) []).refusal ≡ 0
unfolding lt le of_bits
taken_empty = refl

pub over_the_limit : (xs : List Float) → length xs ≡ 262_145 → (process (state half half 2 0 one plus_zero) xs).refusal ≡ 3
unfolding lt le of_bits
over_the_limit xs e = rw e
