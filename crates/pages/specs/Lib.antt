pub mod Pages
pub mod Prog
pub mod Written
pub mod Contract
pub mod Stack
pub mod Timer
pub mod Widths
