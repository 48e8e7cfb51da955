-- Laws of the lanes: one tap of all of them, and their sums so far. Assumes nothing.
pub mod Turning
pub mod Carried
