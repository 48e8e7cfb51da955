-- A block of bytes: what `receive` gives, on acceptance and on refusal. Definitions only.
use Rattle.std.specs.Prelude.{ℕ, ◌*◌, ◌/◌, ◌&&◌, List, leb, length, Float}
use Rattle.stage.specs.Length.{is_even}
use Rattle.stage.specs.Layout.{over}
use Rattle.stage.specs.Refusal.{NONE, refusal_no, unless}
use Rattle.fir.specs.Filter.{count_of}
use Rattle.receiver.specs.Sound.{Memory, memory, sound, after}
use Rattle.receiver.specs.Rules.{setting_met, state_met, lengths_fit}
use Rattle.receiver.specs.Answers.{answer}
use Rattle.receiver.specs.declared.Receiver.{Receiver}
use Rattle.receiver.specs.declared.Received.{Received}

-- how many samples n bytes give
abbrev pub heard_of : ℕ → ℕ → ℕ
heard_of phase n = count_of 10 phase (n / 2)

-- of the receiver, and the lengths of taps, histories, input and output
abbrev pub receive_refusal : Receiver → ℕ → ℕ → ℕ → ℕ → ℕ → ℕ
receive_refusal r taps i q n room =
    refusal_no (setting_met r) (state_met r) (leb n 8192) (is_even n && lengths_fit taps i q) (leb (heard_of r.phase n) (room / 4))

-- a receiver at the place that a memory tells
abbrev pub at : Memory → Receiver
at m = record { phase = m.phase; fm = m.fm }

-- accepted: the answer, both histories, and the output slice with the sound over what it held
abbrev pub accepted : Receiver → List Float → List Float → List Float → List ℕ → List ℕ → Received × List Float × List Float × List ℕ
accepted r taps i q input output =
    let end = after taps (memory r i q) input in
    (answer NONE (at end) (4 * heard_of r.phase (length input)), end.i, end.q, over (sound taps (memory r i q) input) output)

-- refused, nothing has changed
abbrev pub received : Receiver → List Float → List Float → List Float → List ℕ → List ℕ → Received × List Float × List Float × List ℕ
received r taps i q input output =
    let number = receive_refusal r (length taps) (length i) (length q) (length input) (length output) in
    unless number (accepted r taps i q input output) (answer number r 0, i, q, output)
