-- What the loop that stores bytes leans on.
pub mod Fours
