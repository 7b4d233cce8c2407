pub mod Cells
pub mod Ready
pub mod Known
pub mod Settling
pub mod Log
