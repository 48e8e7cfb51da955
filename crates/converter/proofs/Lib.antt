-- Laws of the conversions: what an accepted call knows, the values pair by pair and sixteen at a time, and that division by -127.5 negates.
pub mod Accepted
pub mod Values
pub mod Sixteen
pub mod Negated
