pub mod Columns
pub mod Page
pub mod AfterPage
pub mod Lent
