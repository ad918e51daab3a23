pub mod Nodes
pub mod Ways
pub mod Model
pub mod Targets
pub mod Arrivals
