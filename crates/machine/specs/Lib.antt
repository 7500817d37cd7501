pub mod Checks
pub mod Setting
