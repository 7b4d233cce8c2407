pub mod Places
pub mod Rows
pub mod Notes
pub mod Parts
pub mod Rests
pub mod Listed
