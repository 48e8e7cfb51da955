-- Definitions that the public contracts cite: Convert. Cases has worked values of it.
pub mod Convert
pub mod Cases
