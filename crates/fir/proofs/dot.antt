-- Laws of the sum of products, for the functions of `dot` and those that read windows by it. Assumes nothing.
pub mod Products
