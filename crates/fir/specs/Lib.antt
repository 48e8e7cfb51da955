-- Filter: what any filter gives over a block. Each: what one gives that puts out one for each sample. Damage: the terms of the law on damage. Dot: the filters of this crate. Into: its calls.
-- Written and Planes are for the functions inside the crate, and no public contract cites them. Cases has worked values. Definitions only.
pub mod Filter
pub mod Each
pub mod Damage
pub mod Dot
pub mod Into
pub mod Written
pub mod Planes
pub mod Cases
