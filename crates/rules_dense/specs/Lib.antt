pub mod Gathered
pub mod Frees
pub mod Lent
