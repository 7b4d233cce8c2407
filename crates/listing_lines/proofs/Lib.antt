pub mod IndexLaws
pub mod IndexNumbers
pub mod Ending
pub mod LineCounts
mod ListingC2
