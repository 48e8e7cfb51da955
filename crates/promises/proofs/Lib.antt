-- That it is kept. Assumes nothing.
-- the twelve marked cases
pub mod Marked
-- no second answer: the number work, the stages, the C names, the demo's work
mod OneAnswer
pub mod OnlyNumbers
pub mod OnlyRuns
pub mod OnlySteps
pub mod OnlyStages
pub mod OnlyC
pub mod OnlyReceiver
-- demand 1: the numbers of a refusal, what it leaves, and empty input
mod Table
pub mod Demand1Filters
pub mod Demand1Feedback
pub mod Demand1Receiver
pub mod Empty
-- demand 3: damage passes, and struck samples leave no trace
pub mod Damage
pub mod Dropping
-- what shuts the frauds out
pub mod Frauds
