-- One pair of the AM demodulator, as document 01 and the Rust have it: f32, each operation rounded once. Definitions only.
use Rattle.std.specs.Prelude.{cond, ◌&&◌, Float}
use Rattle.std.specs.Float.{binary32}
use Rattle.std.specs.Float.Ieee.{add, sub, mul, eq}
use Rattle.std.specs.Float.Ieee.Scale.{finite}
use Rattle.root.specs.Root.{rooted}
use Rattle.stage.specs.Floats.{plus_zero, both_finite, blend_of}
use Rattle.stage.specs.Run.{Answer, struck, kept}
use Rattle.am.specs.declared.AmDemodulator.{AmDemodulator}

-- the magnitude of a pair (I, Q): the root of I x I + Q x Q, which looks at the pair alone
unfoldable pub size_of : Float × Float → Float
size_of p = rooted binary32 (add binary32 (mul binary32 p.0 p.0) (mul binary32 p.1 p.1))

-- the mean is seeded with the magnitude whenever it equals 0
unfoldable pub mean_after : AmDemodulator → Float → Float
mean_after s size = cond (eq s.dc_mean plus_zero) size (blend_of s.dc_alpha s.dc_mean size)

-- the magnitude less the mean
abbrev pub envelope : AmDemodulator → Float → Float
envelope s size = sub binary32 size (mean_after s size)

-- the high-pass after it
unfoldable pub passed : AmDemodulator → Float → Float
passed s size = blend_of s.hp_alpha s.hp_state (envelope s size)

-- struck where a float that would be stored or put out is not finite
abbrev pub keep_am : AmDemodulator → Float → Float → Float → Answer Float AmDemodulator
keep_am s out mean state =
    cond (both_finite mean state && finite out)
    (kept out (record { dc_alpha = s.dc_alpha; dc_mean = mean; hp_alpha = s.hp_alpha; hp_state = state }))
    struck

unfoldable pub am_step : AmDemodulator → Float → Answer Float AmDemodulator
unfolding mean_after passed
am_step s size = keep_am s (sub binary32 (envelope s size) (passed s size)) (mean_after s size) (passed s size)

-- the step of a run, from a pair
abbrev pub am_answer : AmDemodulator → Float × Float → Answer Float AmDemodulator
am_answer s p = am_step s (size_of p)
