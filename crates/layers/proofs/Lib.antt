pub mod Dividing
pub mod Turning
