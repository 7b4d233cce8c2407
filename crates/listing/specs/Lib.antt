pub mod ListOutcomes
pub mod AfterList
pub mod Answering
