pub mod Integrators
pub mod Limits
pub mod Servos
