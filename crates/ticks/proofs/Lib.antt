pub mod Advancing
pub mod Fronts
pub mod Stepping
