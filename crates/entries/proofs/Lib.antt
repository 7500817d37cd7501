pub mod Letters
pub mod Makes
pub mod Turning
