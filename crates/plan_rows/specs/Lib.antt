pub mod Rows
pub mod RowBytes
