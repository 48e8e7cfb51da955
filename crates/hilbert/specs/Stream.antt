-- A stream handed to a Hilbert filter call by call, its taps the same throughout: the terms of the theorems on streams. Definitions only.
use Rattle.std.specs.Prelude.{◌-◌, List, length, take, replicate, Float}
use Rattle.stage.specs.Floats.{plus_zero}
use Rattle.stage.specs.InTurn.{Given, inputs, Accepted, call_outs, call_end}
use Rattle.fir.specs.Filter.{kept}
use Rattle.fir.specs.Each.{each_outs}
use Rattle.fir.specs.Dot.{odd_taps}
use Rattle.hilbert.specs.Process.{processed}

-- a call of `process_into`: its input, and its output slice as it stands before
pub record Call : Type 0 where
  pub input : List Float
  pub output : List Float

-- the stream that calls hand over
abbrev pub stream_of : List Call → List Float
stream_of calls = inputs (λ c. c.input) calls

-- what a call gives at this history, which is all that is handed from one call to the next: what it wrote is as much as it counts
abbrev pub gives : List Float → List Float → Call → Given (List Float) Float
gives taps history c =
    let g = processed taps history c.input c.output in
    record { refusal = g.0.refusal; out = take g.0.count g.2; end = g.1 }

-- ---- the definition over a whole stream: the filter's outputs, and the history that would be handed on at its end

abbrev pub stream_outs : List Float → List Float → List Float → List Float
stream_outs taps history stream = each_outs (odd_taps taps) history stream

abbrev pub stream_end : List Float → List Float → List Float
stream_end history stream = kept history stream

-- ---- the calls

-- none of them is refused
abbrev pub AllAccepted : List Float → List Float → List Call → Type 0
AllAccepted taps history calls = Accepted (gives taps) history calls

-- their outputs in a row, and the history that the last hands on
abbrev pub called_outs : List Float → List Float → List Call → List Float
called_outs taps history calls = call_outs (gives taps) history calls

abbrev pub called_end : List Float → List Float → List Call → List Float
called_end taps history calls = call_end (gives taps) history calls

-- ---- from a fresh filter: before the stream there were zeros

abbrev pub fresh_for : List Float → List Float
fresh_for taps = replicate (length taps - 1) plus_zero
