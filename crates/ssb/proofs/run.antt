-- The loop over a block's chunks, what the Hilbert filter leaves in one, and that a call's places stay.
pub mod Chunks
pub mod Summing
pub mod Places
