-- The law that loops over lanes cite, here and in the crates above. Assumes nothing.
pub mod Holding
