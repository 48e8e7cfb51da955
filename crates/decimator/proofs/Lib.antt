-- Laws of the decimator: what an accepted call knows, and its cutoff; then the theorems on streams. Assumes nothing.
pub mod Accepting
pub mod Designing
-- demand 3: a stream may be cut at will, and damage to it passes
pub mod Cut
pub mod Damage
