pub mod PointSets
