pub mod Log
pub mod Code
