pub mod Bound
mod Sums
pub mod Verdict
pub mod Meanings
pub mod Small
pub mod SameRuns
pub mod CheckCases
pub mod Unlabelled
pub mod Checking
mod Bench
mod Ramp
mod RampFollowed
