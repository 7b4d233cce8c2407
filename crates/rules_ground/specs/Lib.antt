pub mod Grounds
pub mod Frames
pub mod Places
pub mod Rows
pub mod Searching
