-- Worked values of the FM demodulator, by computation: marked cases 10 and 11 of document 01, a struck pair, the ends of the rules. Assumes nothing.
use Rattle.std.specs.Prelude.{ℕ, ◌≡◌, refl, List, [], ◌∷◌, Float}
use Rattle.std.specs.Float.{nan, binary32}
use Rattle.std.specs.Float.Ieee.{of_bits, add, sub, mul, div, lt, le, eq, neg, is_nan, of_int}
use Rattle.number.specs.Kinds.{absolute, negative}
use Rattle.number.specs.Narrow.{narrowed}
use Rattle.angle.specs.Numbers.{whole}
use Rattle.angle.specs.Single.{PI32}
use Rattle.angle.specs.Arc.{part, odds, base, inner, flat, quotient, smaller, greater, steep, mirrored, turned, arctan}
use Rattle.stage.specs.Floats.{plus_zero, one}
use Rattle.stage.specs.Into.{Put}
use Rattle.fm.specs.declared.FmDemodulator.{FmDemodulator}
use Rattle.fm.specs.State.{fresh, alpha_of, deemphasis_no, deemphasised}
use Rattle.fm.specs.Step.{angle_of, wrapped, smoothed, fm_step}
use Rattle.fm.specs.Process.{process_into}

abbrev float : ℕ → Float
float b = of_bits binary32 b

abbrev state : Float → Float → Float → FmDemodulator
state phase alpha smooth = record { last_phase = phase; deemph_alpha = alpha; deemph_state = smooth }

abbrev start : FmDemodulator
start = fresh.state

abbrev gives : FmDemodulator → ℕ → ℕ → List Float → Put Float FmDemodulator
gives s count struck left = record { refusal = 0; state = s; count = count; struck = struck; left = left }

abbrev refuses : ℕ → FmDemodulator → List Float → Put Float FmDemodulator
refuses number s left = record { refusal = number; state = s; count = 0; struck = 0; left = left }

abbrev minus_one : Float
minus_one = float 0xbf80_0000

abbrev half_pi : Float
half_pi = float 0x3fc9_0fdb

-- case 10: (1, 0) (0, 1): 0, 0.5
pub case_10 : process_into start (one ∷ plus_zero ∷ plus_zero ∷ one ∷ []) (nan ∷ nan ∷ []) ≡ gives (state half_pi one half_pi) 2 0 (plus_zero ∷ float 0x3f00_0000 ∷ [])
unfolding fm_step smoothed wrapped angle_of narrowed arctan turned mirrored negative steep smaller greater quotient flat base inner odds part whole absolute of_bits add sub mul div lt le eq neg is_nan of_int
case_10 = refl

-- case 11: (-1, 0) alone: 1.0, no wrap
pub case_11 : process_into start (minus_one ∷ plus_zero ∷ []) (nan ∷ []) ≡ gives (state PI32 one PI32) 1 0 (one ∷ [])
unfolding fm_step smoothed wrapped angle_of narrowed arctan turned mirrored negative steep smaller greater quotient flat base inner odds part whole absolute of_bits add sub mul div lt le eq neg is_nan of_int
case_11 = refl

-- beyond -PI a turn is put on: from PI / 2 to -PI the difference is PI / 2, rounded twice
pub wraps : process_into (state half_pi one plus_zero) (minus_one ∷ float 0x8000_0000 ∷ []) (nan ∷ nan ∷ []) ≡ gives (state (neg PI32) one (float 0x3fc9_0fdc)) 1 0 (float 0x3f00_0001 ∷ nan ∷ [])
unfolding fm_step smoothed wrapped angle_of narrowed arctan turned mirrored negative steep smaller greater quotient flat base inner odds part whole absolute of_bits add sub mul div lt le eq neg is_nan of_int
wraps = refl

-- a NaN strikes its pair: 0, counted as an output and as struck, and the state stays
pub nan_struck : process_into start (nan ∷ one ∷ []) (one ∷ []) ≡ gives start 1 1 (plus_zero ∷ [])
unfolding fm_step smoothed wrapped angle_of narrowed arctan of_bits add sub mul div lt le eq neg is_nan
nan_struck = refl

-- an odd input with too little room is LENGTH; room one short is ROOM; a bad alpha goes before a bad angle
pub refusals :
    (process_into start (one ∷ []) [] ≡ refuses 4 start [])
    × (process_into start (one ∷ one ∷ []) [] ≡ refuses 5 start [])
    × (process_into (state nan nan plus_zero) [] [] ≡ refuses 1 (state nan nan plus_zero) [])
    × (process_into (state nan one plus_zero) [] [] ≡ refuses 2 (state nan one plus_zero) [])
unfolding of_bits le
refusals = (refl, refl, refl, refl)

-- a rate of 2 ^ -128 has no 1 / rate, and alpha comes out as NaN: SETTING; a rate of 0 too; tau -0.0 is taken, and alpha is 1
pub deemphases :
    (deemphasis_no start (float 0x0020_0000) one ≡ 1)
    × (deemphasis_no start plus_zero one ≡ 1)
    × ((deemphasised start one (float 0x8000_0000)).state ≡ start)
unfolding deemphasised deemphasis_no alpha_of of_bits div add lt le eq
deemphases = (refl, refl, refl)
