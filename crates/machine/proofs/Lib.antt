pub mod Refusing
pub mod Wiring
