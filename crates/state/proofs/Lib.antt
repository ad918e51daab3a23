pub mod Lent
pub mod Opened
