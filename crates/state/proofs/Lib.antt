pub mod Records
pub mod Parts
pub mod Stores
pub mod Inserts
pub mod Others
