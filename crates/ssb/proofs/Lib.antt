-- Laws of the SSB demodulator: I and Q of pairs, and that the definition can be cut.
pub mod Halves
pub mod Cutting
-- what an accepted call knows
pub mod Accepting
-- demand 3: a stream may be cut at will, and damage to it passes
pub mod Cut
pub mod Damage
