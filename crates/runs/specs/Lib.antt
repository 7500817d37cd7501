pub mod Histories
pub mod Standing
