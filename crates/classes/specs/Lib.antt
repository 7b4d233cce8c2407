pub mod Classes
pub mod AfterCheckClasses
