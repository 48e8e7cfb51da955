-- What a call gives that writes a filter's outputs to the start of a slice. Definitions only.
use Rattle.std.specs.Prelude.{ℕ, Bool, ◌&&◌, cond, List, ◌++◌, leb, length, Float}
use Rattle.stage.specs.Length.{is_within}
use Rattle.stage.specs.Layout.{over}
use Rattle.fir.specs.Filter.{Filter, history_fits, count_of, outputs}
use Rattle.fir.specs.Dot.{every_tap, odd_taps}

-- the number of outputs, and the slice with them over what it held
abbrev pub written : Filter Float Float → ℕ → List Float → List Float → List Float → ℕ × List Float
written f phase history input output =
    let n = count_of f.factor phase (length input) in
    (n, over (outputs f phase (history ++ input) n) output)

-- lengths on which every tap is worked: a history of taps less one, a factor from 1 to 64, an input within the limit, room for each output
abbrev pub fits : ℕ → ℕ → ℕ → ℕ → ℕ → ℕ → Bool
fits factor phase taps history n room =
    history_fits taps history && leb 1 factor && leb factor 64 && is_within n && leb (count_of factor phase n) room

-- on others there is no output, and the slice stays
abbrev pub filtered_into : ℕ → ℕ → List Float → List Float → List Float → List Float → ℕ × List Float
filtered_into factor phase taps history input output =
    cond (fits factor phase (length taps) (length history) (length input) (length output))
    (written (every_tap factor taps) phase history input output)
    (0, output)

-- the same over the odd taps: at most 129 of them, and an output for each sample
abbrev pub fits_odd : ℕ → ℕ → ℕ → ℕ → Bool
fits_odd taps history n room = history_fits taps history && leb taps 129 && is_within n && leb n room

abbrev pub filtered_odd_into : List Float → List Float → List Float → List Float → ℕ × List Float
filtered_odd_into taps history input output =
    cond (fits_odd (length taps) (length history) (length input) (length output)) (written (odd_taps taps) 0 history input output) (0, output)
