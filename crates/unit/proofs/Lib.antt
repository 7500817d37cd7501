pub mod Answers
pub mod Division
pub mod Exits
pub mod Products
pub mod Signs
pub mod Sizes
pub mod Totals
pub mod Truth
