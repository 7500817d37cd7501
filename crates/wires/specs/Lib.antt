pub mod Sources
pub mod Taps
