pub mod Fronts
pub mod Scan
pub mod Whole
