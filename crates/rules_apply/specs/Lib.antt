pub mod Applying
pub mod Applicable
