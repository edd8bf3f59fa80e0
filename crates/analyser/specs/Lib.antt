pub mod Comparison
pub mod Answers
