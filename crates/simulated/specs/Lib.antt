pub mod Paths
pub mod Board
pub mod Roll
pub mod Filters
pub mod Prepared
pub mod Meanings
pub mod Sets
