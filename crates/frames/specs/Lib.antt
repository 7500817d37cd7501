pub mod Frames
pub mod Rules
pub mod Faults
