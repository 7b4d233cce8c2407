pub mod Lines
pub mod Rules
pub mod Tables
pub mod Derivations
