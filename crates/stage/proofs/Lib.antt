-- The laws that the stages cite, each for any step, sample, output and state, and the loops by how samples lie in slices. Assumes nothing.
-- what number 0 says of the demands, and what a call gives by its number
pub mod Refusals
-- what a rule that joins several conditions says of each
pub mod Both
-- a rounded sum does not depend on the order of its operands
pub mod Commute
-- one output for each sample, and what a run keeps
pub mod Run
-- a block cut in two, a stream cut into any blocks, and the struck samples dropped: demand 3
pub mod Cut
pub mod Blocks
pub mod Drop
-- the same of calls in place, for any layout: cut into any calls, dropped from a call, and what no later call refuses
pub mod Calls
pub mod Cuts
pub mod Dropped
pub mod Stays
-- the same of calls that put their outputs into another slice
pub mod Intos
pub mod IntoStreams
-- a stream in calls, for a stage whose input and output lie apart
pub mod InTurn
-- a burst of struck samples, and that what is not finite stays so
pub mod Burst
pub mod NotFinite
-- work on the sample alone, done before the run
pub mod Alone
-- pairs, interleaved or side by side, and what a call is lent
pub mod Layouts
pub mod Lents
-- a run under way and a slice partly written, which the loops share
pub mod Going
pub mod Written
-- a list worked out place by place, and a slice filled with a list that is known beforehand
pub mod Counted
pub mod Filling
-- a list known place by place
pub mod Places
-- the loop's invariant for samples, for interleaved pairs and for outputs in another slice: that it begins, that a turn keeps it, and what it says at the end
pub mod LoopMono
pub mod LoopInterleaved
pub mod LoopInto
-- a block tried without a test at each sample, and a run worked part by part: pairs in two slices as interleaved ones
pub mod AllFinite
pub mod Trial
pub mod InParts
pub mod SplitParts
-- what the rule on a filter's number of taps says
pub mod TapCounts
-- what a call gives, from what its code knows
pub mod Gives
