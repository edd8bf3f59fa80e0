pub mod Notes
pub mod Entries
pub mod Shapes
