pub mod Dividers
pub mod Houses
pub mod Laws
pub mod Turns
