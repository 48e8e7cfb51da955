-- Laws of the history's update. Assumes nothing.
pub mod Over
