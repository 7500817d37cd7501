pub mod Places
pub mod SameItems
