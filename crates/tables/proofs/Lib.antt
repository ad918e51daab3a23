pub mod Ascents
pub mod Calls
pub mod Entered
pub mod Lookups
pub mod Places
pub mod Seen
pub mod Sought
pub mod Views
