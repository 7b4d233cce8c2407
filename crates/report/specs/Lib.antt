pub mod Text
pub mod Printed
pub mod AfterReport
pub mod Printable
