pub mod Edited
pub mod Steps
pub mod Exposes
pub mod Lefts
