pub mod Each
pub mod Lowest
pub mod Ascending
pub mod Names
pub mod Options
