-- A stream handed to an SSB demodulator call by call, its taps the same throughout: the terms of the theorems on streams. Definitions only.
use Rattle.std.specs.Prelude.{Bool, List, take, replicate, Float}
use Rattle.stage.specs.Floats.{plus_zero}
use Rattle.stage.specs.Layout.{pairs}
use Rattle.stage.specs.InTurn.{Given, inputs, Accepted, call_outs, call_end}
use Rattle.ssb.specs.Answers.{for_sideband}
use Rattle.ssb.specs.Sideband.{Histories, histories, ssb_outs, ssb_end}
use Rattle.ssb.specs.Process.{processed}
use Rattle.ssb.specs.declared.SsbDemodulator.{SsbDemodulator}

-- a call of `process_into`: its input, and its output slice as it stands before
pub record Call : Type 0 where
  pub input : List Float
  pub output : List Float

-- what is handed from one call to the next
pub record Handed : Type 0 where
  pub state : SsbDemodulator
  pub held : Histories

abbrev pub handed : SsbDemodulator → Histories → Handed
handed d h = record { state = d; held = h }

-- the pairs that calls hand over
abbrev pub stream_of : List Call → List (Float × Float)
stream_of calls = inputs (λ c. pairs c.input) calls

-- what a call gives: what it wrote is as much as it counts
abbrev pub gives : List Float → Handed → Call → Given Handed Float
gives taps s c =
    let g = processed s.state taps s.held.q s.held.i c.input c.output in
    record { refusal = g.0.refusal; out = take g.0.count g.3; end = handed g.0.state (histories g.1 g.2) }

-- ---- the definition over a whole stream: its outputs, and what would be handed on at its end

abbrev pub stream_outs : List Float → Handed → List (Float × Float) → List Float
stream_outs taps s stream = ssb_outs s.state.is_usb taps s.held stream

abbrev pub stream_end : Handed → List (Float × Float) → Handed
stream_end s stream = handed s.state (ssb_end s.held stream)

-- ---- the calls

-- none of them is refused
abbrev pub AllAccepted : List Float → Handed → List Call → Type 0
AllAccepted taps s calls = Accepted (gives taps) s calls

-- their outputs in a row, and what the last hands on
abbrev pub called_outs : List Float → Handed → List Call → List Float
called_outs taps s calls = call_outs (gives taps) s calls

abbrev pub called_end : List Float → Handed → List Call → Handed
called_end taps s calls = call_end (gives taps) s calls

-- ---- from a fresh demodulator: before the stream there were zeros

abbrev pub fresh_for : Bool → Handed
fresh_for usb = handed (for_sideband usb) (histories (replicate 64 plus_zero) (replicate 32 plus_zero))
