pub mod Trials
pub mod BreakingRows
pub mod AfterBreakingRows
pub mod Lent
pub mod Reducing
