-- Laws of the delay, and of lists that are mixed place by place.
pub mod Delay
pub mod Mixed
pub mod Parts
