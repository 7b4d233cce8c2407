pub mod Counting
pub mod Having
mod Noting
pub mod Going
pub mod Lending
pub mod Owning
pub mod Passing
mod Removing
mod Rests
