-- Laws of the square root. `Told` and `EveryRoot` have what a customer is promised of it; request 03's methods cite Whole and Scale.
pub mod Squares
pub mod Whole
pub mod Rounds
pub mod Value
pub mod Fits
pub mod Sides
pub mod Near
pub mod EveryRoot
pub mod Told
pub mod Patterns
pub mod Scale
pub mod Digit
