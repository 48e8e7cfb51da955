-- Rules and Answers, and by them what the public calls give: Making, Process, Settling. Stream has the terms of the theorems on streams,
-- Cases worked values. Definitions only.
pub mod Rules
pub mod Answers
pub mod Making
pub mod Process
pub mod Settling
pub mod Stream
pub mod Cases
