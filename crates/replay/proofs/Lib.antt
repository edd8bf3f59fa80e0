pub mod Summed
pub mod Stores
pub mod Groups
pub mod Listed
pub mod Called
