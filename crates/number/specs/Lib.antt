-- Definitions: Kinds, Narrow, Eight (public contracts cite them), Nearest (what rounding is, without the method).
-- Cases has worked values.
pub mod Kinds
pub mod Narrow
pub mod Nearest
pub mod Eight
pub mod Cases
