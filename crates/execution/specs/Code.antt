-- How the code is built, where that is not document 01's word: nothing here need be believed.
pub mod Chain
pub mod Due
pub mod Outcomes
pub mod Shapes
