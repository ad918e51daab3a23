pub mod Args
pub mod Commands
pub mod Ends
