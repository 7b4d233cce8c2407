pub mod Decimal
pub mod Joined
pub mod Buffer
