-- What is promised: Marked (the twelve cases), Contract (no second answer), Table (demand 1), Damage and Dropping (demand 3), Frauds (what a fraud would have to answer).
-- Definitions only.
pub mod Marked
pub mod Contract
pub mod Table
pub mod Damage
pub mod Dropping
pub mod Frauds
