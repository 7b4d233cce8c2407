pub mod Steps
pub mod Shapes
pub mod Parts
pub mod Lent
pub mod Filling
pub mod Rows
pub mod Cells
pub mod Parents
