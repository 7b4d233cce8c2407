pub mod Dramas
pub mod Strategies
pub mod Positions
