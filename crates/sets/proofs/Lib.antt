pub mod Walk
pub mod Members
pub mod Each
pub mod Ranges
