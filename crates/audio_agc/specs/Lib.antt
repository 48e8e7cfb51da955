-- Definitions that the contracts cite: State, Made, Level, Step, Moved, Process; NoTrace is what a theorem promises. Cases and Ends have worked values. Definitions only.
pub mod State
pub mod Made
pub mod Level
pub mod Step
pub mod Moved
pub mod Process
pub mod NoTrace
pub mod Cases
pub mod Ends
