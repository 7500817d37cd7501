pub mod Bounds
pub mod Changes
pub mod Limits
pub mod Records
pub mod Signals
pub mod Tables
