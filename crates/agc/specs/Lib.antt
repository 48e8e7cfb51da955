-- Definitions that the contracts cite: State, Gain, Step, Process. Cases has worked values of them. Definitions only.
pub mod State
pub mod Gain
pub mod Step
pub mod Process
pub mod Cases
