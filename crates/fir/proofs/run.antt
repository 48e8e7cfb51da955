-- What the tests at the start of a call say. Assumes nothing.
pub mod Fitting
