-- Bytes and Sound: what a stream of bytes gives. Rules and Answers, and by them what the public calls give: Making and Receive. Blocks has the terms
-- of the cut law, Cases worked values. Ready is for the functions inside the crate. Definitions only.
pub mod Bytes
pub mod Sound
pub mod Rules
pub mod Answers
pub mod Making
pub mod Receive
pub mod Blocks
pub mod Ready
pub mod Cases
