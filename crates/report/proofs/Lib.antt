mod Lengths
pub mod PrintedLaws
mod BenchText
