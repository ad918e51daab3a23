pub mod Names
pub mod Order
pub mod Texts
pub mod Bytes
pub mod Model
pub mod Laws
pub mod Equal
