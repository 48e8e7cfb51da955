-- Rules, Answers and Sideband, and by them what the public calls give: Making and Process. Stream has the terms of the theorems on streams,
-- Ready and Lent are for the functions inside the crate, Cases has worked values. Definitions only.
pub mod Rules
pub mod Answers
pub mod Sideband
pub mod Making
pub mod Process
pub mod Stream
pub mod Ready
pub mod Lent
pub mod Cases
