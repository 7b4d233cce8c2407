pub mod Listings
pub mod Replaying
pub mod Derives
pub mod AfterReplay
pub mod Judging
pub mod Judged
