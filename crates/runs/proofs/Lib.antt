pub mod Delivering
pub mod Extending
pub mod Uniqueness
