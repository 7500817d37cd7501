pub mod Reading
pub mod Racking
pub mod Tapping
pub mod Joining
