pub mod Listed
pub mod Handed
