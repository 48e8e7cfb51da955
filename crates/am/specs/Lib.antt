-- Definitions that the contracts cite: State, Step, Process. Cases has worked values of them. Definitions only.
pub mod State
pub mod Step
pub mod Process
pub mod Cases
