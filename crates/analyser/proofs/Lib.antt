pub mod Writes
pub mod Verdict
pub mod Answers
pub mod Unchanged
