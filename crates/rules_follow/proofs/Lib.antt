mod Searching
mod Lateness
pub mod TableLines
mod LinkChains
mod Stepping
mod KnownDigits
mod Spreading
mod KeptEdges
mod GoingBy
mod Invariant
mod Runs
mod Reacting
pub mod Followed
