-- What is proved of the audio gain control beyond its contracts. Assumes nothing.
-- each way of a step ends in one test, a hang time cut to a whole number, and what a step keeps of a state
pub mod Ways
pub mod Hang
pub mod Sound
-- a signal's step whose floats are finite keeps its sample
pub mod Tried
-- the loop of a trial
pub mod Trying
-- demand 3: a stream cut into calls, and the struck samples dropped
pub mod Streams
pub mod Struck
-- a burst of bad samples leaves no trace
pub mod FieldReturn
-- no later call refuses a state that an accepted one gave
pub mod Stays
