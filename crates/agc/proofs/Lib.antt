-- What is proved of the gain control beyond its contracts. Assumes nothing.
-- a step keeps what a call demands of a state
pub mod Sound
-- demand 3: a stream cut into calls, and the struck pairs dropped
pub mod Streams
pub mod Struck
-- no later call refuses a state that an accepted one gave
pub mod Stays
