mod Bases
pub mod Truth
pub mod CountLaws
pub mod LabelLaws
pub mod Digits
pub mod Places
pub mod Ranges
pub mod Tests
pub mod Chains
pub mod Horizons
pub mod Unlabelled
pub mod Fewer
pub mod SameRows
pub mod Forms
pub mod RefusalNumbers
mod Greatest
mod Marked
mod Weights
pub mod Widths
