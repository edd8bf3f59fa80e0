pub mod Words
pub mod Faithful
