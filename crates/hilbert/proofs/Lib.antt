-- Laws of the Hilbert filter: what an accepted call knows, and what it writes.
pub mod Accepting
-- demand 3: a stream may be cut at will, and damage to it passes
pub mod Cut
pub mod Damage
