-- Laws of the sum over the odd taps, and of its lanes. Assumes nothing.
pub mod Odd
