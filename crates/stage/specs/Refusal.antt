-- The five numbers of document 01, "Five numbers", and what a call gives by them. Definitions only.
use Rattle.std.specs.Prelude.{ℕ, zero, suc, Bool, not, cond}

-- the call is not refused
abbrev pub NONE : ℕ
NONE = 0

-- a setting, also one inside a handed-in state, breaks its rule
abbrev pub SETTING : ℕ
SETTING = 1

-- a stored float is not finite, or a hang counter exceeds its hang time
abbrev pub STATE : ℕ
STATE = 2

-- an input or in-place slice has too many elements
abbrev pub LIMIT : ℕ
LIMIT = 3

-- an interleaved slice is odd, or lengths do not fit each other
abbrev pub LENGTH : ℕ
LENGTH = 4

-- the output slice is shorter than the output
abbrev pub ROOM : ℕ
ROOM = 5

-- Each flag says that its demand is met: the number is that of the first, in the table's order, that is not.
abbrev pub refusal_no : Bool → Bool → Bool → Bool → Bool → ℕ
refusal_no setting state limit length room =
    cond (not setting) SETTING
    (cond (not state) STATE
    (cond (not limit) LIMIT
    (cond (not length) LENGTH
    (cond (not room) ROOM
    NONE))))

-- what a call gives: `run` where its number is NONE, and `refused` under any other
abbrev pub unless : {X : Type 0} → ℕ → X → X → X
unless zero run refused = run
unless (suc n) run refused = refused

-- the same beside the number itself: what a call gives that answers its number and leaves slices
abbrev pub answered : {X : Type 0} → ℕ → X → X → ℕ × X
answered number run refused = (number, unless number run refused)
