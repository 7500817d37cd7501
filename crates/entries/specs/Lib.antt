pub mod Entries
pub mod Making
pub mod Turns
