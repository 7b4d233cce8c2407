pub mod PointSets
pub mod Growing
pub mod Gathering
mod Folding
