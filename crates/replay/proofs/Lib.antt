pub mod ListingLaws
mod JudgeLaws
pub mod ListingC2
