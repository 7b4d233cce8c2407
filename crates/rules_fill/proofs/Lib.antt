pub mod PartLaws
pub mod StepLaws
pub mod PointLaws
pub mod ShapeLaws
pub mod ShapeGives
mod ShapeRows
pub mod ShapeWhole
pub mod Laying
pub mod Runs
pub mod Lending
