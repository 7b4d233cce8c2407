pub mod Conversion
pub mod AfterConversion
