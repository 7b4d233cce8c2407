pub mod Comparing
pub mod RoundLaws
pub mod Covering
pub mod Affected
pub mod LogLaws
mod Refilled
mod RoundByPoints
mod LineLists
mod ListLaws
mod NotedLaws
mod Copying
mod Walking
mod SettleLaws
