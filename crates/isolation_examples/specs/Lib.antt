pub mod Example
pub mod Pinned
