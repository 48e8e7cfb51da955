-- Halves: what the calls give. Cases: worked values. Definitions only.
pub mod Halves
pub mod Cases
