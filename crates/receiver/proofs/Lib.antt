-- Laws of the receiver: lengths, what number 0 says, what each stage's call leaves that is not refused, and the cut.
pub mod Lengths
pub mod Accepted
pub mod Stages
pub mod Cut
