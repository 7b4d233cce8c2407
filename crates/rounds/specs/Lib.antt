pub mod CheckOutcomes
pub mod Meaning
pub mod AfterCheck
pub mod FromZeros
