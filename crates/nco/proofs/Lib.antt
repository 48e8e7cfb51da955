-- Laws of the oscillator's calls: what a call gives by its number, and what a place in the slice leads to.
pub mod Given
pub mod Ahead
