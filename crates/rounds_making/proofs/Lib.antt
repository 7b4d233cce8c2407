pub mod Stopping
pub mod TableLengths
pub mod RoundsMade
mod OneRound
mod RoundByRound
mod ZeroLists
mod ListSizes
