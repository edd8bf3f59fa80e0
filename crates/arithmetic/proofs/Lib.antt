pub mod Bytes
pub mod Compute
pub mod Rows
pub mod Flags
pub mod Digits
pub mod Status
pub mod Widths
