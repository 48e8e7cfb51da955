-- Laws of samples that are gathered, or read where they lie, and of the outputs over them. Assumes nothing.
pub mod Gathered
