-- The twelve marked cases of document 01 as one list, each over the definition that the call's contract cites: answer, state, counts and every lent place. Definitions only.
use Rattle.std.specs.Prelude.{ℕ, ◌≡◌, true, List, [], ◌∷◌, pos, Float}
use Rattle.std.specs.Float.{nan, fin, binary32}
use Rattle.std.specs.Float.Ieee.{of_int}
use Rattle.angle.specs.Single.{PI32}
use Rattle.stage.specs.Floats.{plus_zero, one}
use Rattle.stage.specs.Named.{single, quarter, half}
use Rattle.converter.specs.Convert.{sample_of}
use Rattle.root.specs.Root.{rooted}
use Rattle.decimator.specs.Process.{processed}
use Rattle.dc_remover.specs.State as dc-remover
use Rattle.dc_remover.specs.Process.{process_mono}
use Rattle.fm.specs.State as fm-state
use Rattle.fm.specs.Process as fm
use Rattle.am.specs.State as am-state
use Rattle.am.specs.Process as am

-- a whole number in f32
abbrev pub whole : ℕ → Float
whole n = of_int binary32 (pos n)

abbrev pub minus_one : Float
minus_one = fin true 1 (pos 0)

-- ---- conversions and square root

-- 1. byte 0 gives -1.0
abbrev pub case_1 : Type 0
case_1 = sample_of 0 ≡ minus_one

-- 2. byte 255 gives 1.0
abbrev pub case_2 : Type 0
case_2 = sample_of 255 ≡ whole 1

-- 3. root of 25 is 5
abbrev pub case_3 : Type 0
case_3 = rooted binary32 (whole 25) ≡ whole 5

-- 4. root of 2 has bits 3FB504F3
abbrev pub case_4 : Type 0
case_4 = rooted binary32 (whole 2) ≡ single 0x3fb5_04f3

-- ---- decimator: taps 0.25, 0.5, 0.25, factor 2. What a place holds before the call is nan, and stays behind the last output

abbrev pub taps : List Float
taps = quarter ∷ half ∷ quarter ∷ []

-- 5. fresh, input 1 2 3 4 5: outputs 0.25, 2, 4; history 4 5; phase 1
abbrev pub case_5 : Type 0
case_5 =
    processed (record { factor = 2; phase = 0 }) taps (whole 0 ∷ whole 0 ∷ []) (whole 1 ∷ whole 2 ∷ whole 3 ∷ whole 4 ∷ whole 5 ∷ []) (nan ∷ nan ∷ nan ∷ nan ∷ [])
    ≡ (record { refusal = 0; state = record { factor = 2; phase = 1 }; count = 3 }, whole 4 ∷ whole 5 ∷ [], quarter ∷ whole 2 ∷ whole 4 ∷ nan ∷ [])

-- 6. then input 6: none; history 5 6; phase 0
abbrev pub case_6 : Type 0
case_6 =
    processed (record { factor = 2; phase = 1 }) taps (whole 4 ∷ whole 5 ∷ []) (whole 6 ∷ []) (nan ∷ [])
    ≡ (record { refusal = 0; state = record { factor = 2; phase = 0 }; count = 0 }, whole 5 ∷ whole 6 ∷ [], nan ∷ [])

-- 7. then 7 8: output 6; phase 0
abbrev pub case_7 : Type 0
case_7 =
    processed (record { factor = 2; phase = 0 }) taps (whole 5 ∷ whole 6 ∷ []) (whole 7 ∷ whole 8 ∷ []) (nan ∷ [])
    ≡ (record { refusal = 0; state = record { factor = 2; phase = 0 }; count = 1 }, whole 7 ∷ whole 8 ∷ [], whole 6 ∷ [])

-- ---- DC remover, mono, alpha 0.5: the mean goes to 0.75

-- 8. input 1, 1: 0.5, 0.25
abbrev pub case_8 : Type 0
case_8 =
    process_mono (dc-remover.fresh half) (one ∷ one ∷ [])
    ≡ record { refusal = 0; state = record { avg_i = single 0x3f40_0000; avg_q = plus_zero; alpha = half }; struck = 0; left = half ∷ quarter ∷ [] }

-- 9. input 1, NaN, 1: 0.5, 0, 0.25, one struck
abbrev pub case_9 : Type 0
case_9 =
    process_mono (dc-remover.fresh half) (one ∷ nan ∷ one ∷ [])
    ≡ record { refusal = 0; state = record { avg_i = single 0x3f40_0000; avg_q = plus_zero; alpha = half }; struck = 1; left = half ∷ plus_zero ∷ quarter ∷ [] }

-- ---- demodulators, fresh

-- 10. FM, alpha 1, (1,0) (0,1): 0, 0.5; the last angle is PI / 2
abbrev pub case_10 : Type 0
case_10 =
    fm.process_into (fm-state.fresh).state (one ∷ plus_zero ∷ plus_zero ∷ one ∷ []) (nan ∷ nan ∷ [])
    ≡ record { refusal = 0; state = record { last_phase = single 0x3fc9_0fdb; deemph_alpha = one; deemph_state = single 0x3fc9_0fdb }; count = 2; struck = 0; left = plus_zero ∷ half ∷ [] }

-- 11. FM, (-1,0) alone: 1.0, no wrap; the last angle is PI
abbrev pub case_11 : Type 0
case_11 =
    fm.process_into (fm-state.fresh).state (minus_one ∷ plus_zero ∷ []) (nan ∷ [])
    ≡ record { refusal = 0; state = record { last_phase = PI32; deemph_alpha = one; deemph_state = PI32 }; count = 1; struck = 0; left = one ∷ [] }

-- 12. AM, (3,4): 0; the mean is seeded with 5
abbrev pub case_12 : Type 0
case_12 =
    am.process_into (am-state.fresh).state (whole 3 ∷ whole 4 ∷ []) (nan ∷ [])
    ≡ record {
      refusal = 0;
      state = record { dc_alpha = (am-state.fresh).state.dc_alpha; dc_mean = whole 5; hp_alpha = (am-state.fresh).state.hp_alpha; hp_state = plus_zero };
      count = 1;
      struck = 0;
      left = plus_zero ∷ [];
    }

-- ---- the list

abbrev pub marked_cases : List (Type 0)
marked_cases = case_1 ∷ case_2 ∷ case_3 ∷ case_4 ∷ case_5 ∷ case_6 ∷ case_7 ∷ case_8 ∷ case_9 ∷ case_10 ∷ case_11 ∷ case_12 ∷ []

-- each statement of a list holds
abbrev pub All : List (Type 0) → Type 0
All [] = Unit
All (P ∷ Ps) = P × All Ps
