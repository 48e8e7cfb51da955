-- Definitions that the public contracts cite: Rules, Taps and Answers, and by them Making and Process. Stream has the terms of the theorems
-- on streams, Cases worked values.
pub mod Rules
pub mod Taps
pub mod Answers
pub mod Making
pub mod Process
pub mod Stream
pub mod Cases
