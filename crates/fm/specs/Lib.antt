-- Definitions that the contracts cite: State, Step, Process; Angles is cited inside the crate alone. Cases has worked values of them. Definitions only.
pub mod State
pub mod Step
pub mod Process
pub mod Angles
pub mod Cases
