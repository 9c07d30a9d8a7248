pub mod Marks
pub mod Reach
pub mod Steps
pub mod Walks
