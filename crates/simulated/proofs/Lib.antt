pub mod Seen
pub mod Room
