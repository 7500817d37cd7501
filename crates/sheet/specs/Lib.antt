pub mod Patches
pub mod Texts
pub mod Views
