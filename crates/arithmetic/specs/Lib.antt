pub mod Record
pub mod Flags
pub mod Sums
pub mod Decimal
pub mod Logic
pub mod Shifts
pub mod Widths
