pub mod Counting
pub mod Sheets
pub mod OneSheet
pub mod Extents
pub mod Exactness
pub mod Slices
pub mod Rising
