-- Laws of the halves: what the calls give on lengths that fit. Assumes nothing.
pub mod Lengths
