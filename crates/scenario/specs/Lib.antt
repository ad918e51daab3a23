pub mod Words
pub mod Rest
pub mod Walk
pub mod Numbers
pub mod Escapes
pub mod Refusals
