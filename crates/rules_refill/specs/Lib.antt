pub mod Lists
pub mod Lent
pub mod Removals
pub mod Refills
