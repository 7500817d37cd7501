pub mod Lines
pub mod Fronts
pub mod OneFault
pub mod Lengths
pub mod Counts
