-- Definitions that the public contracts cite: Rules (settings), Lowpass (the taps). Cases has worked values.
pub mod Rules
pub mod Lowpass
pub mod Cases
