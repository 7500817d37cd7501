pub mod Figures
pub mod Making
pub mod Pulses
pub mod Refusals
pub mod Sizes
pub mod Solutions
