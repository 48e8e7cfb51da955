-- What the proofs of both narrowings use: a pattern's parts, rounding as one sum and one division, the four ranges of an f64's fields, rounding by adding, and the way through the bits.
pub mod Signed
pub mod Shift
pub mod Fields
pub mod Word
pub mod Added
pub mod Over
pub mod Through
