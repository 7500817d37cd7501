pub mod Phases
pub mod Answers
