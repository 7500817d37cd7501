pub mod Tops
pub mod Drafts
pub mod Wholes
pub mod First
