pub mod Group
pub mod Covers
pub mod Rule3
pub mod Runs
