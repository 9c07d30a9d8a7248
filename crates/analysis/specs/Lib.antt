pub mod Answers
pub mod Known
pub mod Places
