-- Definitions that the public contracts cite: Mix (the work), Rules (settings and state), Call (what each call gives), Blocks (how far a block leads). Cases has worked values.
pub mod Mix
pub mod Rules
pub mod Call
pub mod Blocks
pub mod Cases
