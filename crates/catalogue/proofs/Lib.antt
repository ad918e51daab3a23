pub mod Turns
pub mod Children
