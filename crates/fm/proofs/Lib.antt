-- What is proved of the FM demodulator beyond its contracts. Assumes nothing.
-- a step keeps what the calls demand of a state
pub mod Sound
-- the angles first, then the feedback
pub mod Ahead
-- demand 3: a stream cut into calls, and the struck pairs dropped
pub mod Streams
pub mod Struck
-- no later call refuses a state that an accepted one gave
pub mod Stays
