-- What is proved of the DC remover beyond its contracts. Assumes nothing.
-- a step keeps what the calls demand of a state
pub mod Sound
-- and one whose outputs are finite keeps its sample
pub mod Tried
-- demand 3: a stream cut into calls, and the struck samples dropped
pub mod Streams
pub mod Struck
-- no later call refuses a state that an accepted one gave
pub mod Stays
-- the order of the sum in the Rust's `process_split`
pub mod Order
