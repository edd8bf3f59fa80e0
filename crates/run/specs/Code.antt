-- How the code is built: what the promises of its inner functions say. None of it need be believed.
pub mod Leads
pub mod States
pub mod FileAnswers
pub mod LineParts
