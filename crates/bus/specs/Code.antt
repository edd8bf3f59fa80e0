-- How the code is built, where that is not document 02's word: nothing here need be believed.
pub mod Notes
