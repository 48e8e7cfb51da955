-- Laws of windows that are read from two slices. Assumes nothing.
pub mod Across
