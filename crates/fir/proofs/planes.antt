-- Laws of the copy into planes. Assumes nothing.
pub mod Copied
