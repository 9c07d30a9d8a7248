pub mod Table
pub mod LineWords
pub mod Told
