-- Definitions that the public contracts cite: Numbers, Turn (reduction, sine, cosine), Arc (arctangent), Single (at f32), Lanes (four at once). Parts is cited inside the crate alone.
-- Cases has worked values.
pub mod Numbers
pub mod Turn
pub mod Arc
pub mod Single
pub mod Parts
pub mod Lanes
pub mod Cases
