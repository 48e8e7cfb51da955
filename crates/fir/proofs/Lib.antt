-- Laws of any filter, for the filters above to cite, and then laws that several functions here share. Assumes nothing.
-- how many outputs a block gives, and the phase after it
pub mod Counting
-- a stream cut into blocks or calls, and damage to a stream
pub mod Cut
pub mod Damage
-- the same for a filter with an output for each sample
pub mod Each
-- where windows begin, and values written in a row into a slice
mod Places
mod Grown
