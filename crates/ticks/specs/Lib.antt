pub mod Passes
pub mod Racks
pub mod Ticks
