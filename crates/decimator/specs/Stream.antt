-- A stream handed to a decimator call by call, its taps the same throughout: the terms of the theorems on streams. Definitions only.
use Rattle.std.specs.Prelude.{ℕ, ◌-◌, List, length, take, replicate, Float}
use Rattle.stage.specs.Floats.{plus_zero}
use Rattle.stage.specs.InTurn.{Given, inputs, Accepted, call_outs, call_end}
use Rattle.fir.specs.Filter.{Memory, filter_outs, filter_end}
use Rattle.fir.specs.Dot.{every_tap}
use Rattle.decimator.specs.Answers.{at, fresh}
use Rattle.decimator.specs.Process.{memory, processed}
use Rattle.decimator.specs.declared.Decimator.{Decimator}

-- a call of `process_into`: its input, and its output slice as it stands before
pub record Call : Type 0 where
  pub input : List Float
  pub output : List Float

-- the stream that calls hand over
abbrev pub stream_of : List Call → List Float
stream_of calls = inputs (λ c. c.input) calls

-- what the caller hands from one call to the next
pub record Handed : Type 0 where
  pub state : Decimator
  pub history : List Float

-- the same, of what the filter remembers
abbrev pub handed : Decimator → Memory Float → Handed
handed d h = record { state = at d h.phase; history = h.history }

-- what a call gives: what it wrote is as much of its output slice as it counts
abbrev pub gives : List Float → Handed → Call → Given Handed Float
gives taps s c =
    let g = processed s.state taps s.history c.input c.output in
    record { refusal = g.0.refusal; out = take g.0.count g.2; end = record { state = g.0.state; history = g.1 } }

-- ---- the definition over a whole stream: the filter's outputs, and what would be handed on at its end

abbrev pub stream_outs : List Float → Handed → List Float → List Float
stream_outs taps s stream = filter_outs (every_tap s.state.factor taps) (memory s.state s.history) stream

abbrev pub stream_end : List Float → Handed → List Float → Handed
stream_end taps s stream = handed s.state (filter_end (every_tap s.state.factor taps) (memory s.state s.history) stream)

-- ---- the calls

-- none of them is refused
abbrev pub AllAccepted : List Float → Handed → List Call → Type 0
AllAccepted taps s calls = Accepted (gives taps) s calls

-- their outputs in a row, and what the last hands on
abbrev pub called_outs : List Float → Handed → List Call → List Float
called_outs taps s calls = call_outs (gives taps) s calls

abbrev pub called_end : List Float → Handed → List Call → Handed
called_end taps s calls = call_end (gives taps) s calls

-- ---- from a fresh decimator: phase 0, and a history of zeros

abbrev pub fresh_with : ℕ → List Float → Handed
fresh_with factor taps = record { state = fresh factor; history = replicate (length taps - 1) plus_zero }
