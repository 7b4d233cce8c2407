pub mod SomeRows
pub mod Marked
mod RowPlaces
pub mod RowPlans
mod Begun
mod Listed
mod Written
