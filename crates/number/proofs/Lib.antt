-- Laws that the crates above cite too. `Told` has what a customer is promised of both width changes, and `Rounded` the
-- same of any number; Grid, LastDigit, Middle, Placed and Overflow lead there. The rest: what `nearest` picks, the
-- pattern of a rounded result, rounding at a dyadic fraction, rounding by adding and by splitting, eight narrowed at
-- once, which values are NaN, and where a whole number is a float.
pub mod Nearest
pub mod Pack
pub mod Dyadic
pub mod Grid
pub mod LastDigit
pub mod Middle
pub mod Placed
pub mod Overflow
pub mod Rounded
pub mod Told
pub mod Adding
pub mod Splitting
pub mod Eights
pub mod Nan
pub mod Casts
