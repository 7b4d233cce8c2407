pub mod ApplyLaws
pub mod SameLines
