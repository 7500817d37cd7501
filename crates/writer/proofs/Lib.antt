pub mod Lining
pub mod Whole
