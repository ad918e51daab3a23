pub mod Classes
pub mod Rows
pub mod Edits
pub mod Model
pub mod Unlinked
