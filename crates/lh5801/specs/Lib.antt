pub mod Words
pub mod Compared
pub mod Faithful
