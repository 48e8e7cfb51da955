-- What the remainder is, as a fraction.
pub mod Turns
